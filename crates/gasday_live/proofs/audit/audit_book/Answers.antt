use Rattle.std.proofs.Common.{inl, inr, ap, ◌∙◌}
use Rattle.std.proofs.lemmas.Result.{IfOk-weaker}
use Rattle.gd_live.specs.Seen.{at_desk}
use Rattle.gasday_part.specs.Answers.{one}
use Rattle.gasday_live.proofs.audit.audit_book.Goals as goal

pub returns-in-Ok-clause-audited : goal.returns-in-Ok-clause-audited
returns-in-Ok-clause-audited g c clean =
    let it = c.in-Ok.ensures.book clean in
    let stand = at_desk c.in-Ok.book.desk in
    let holds = c.replayed-row.ensures.holds in
    IfOk-weaker c.of_one.result _ _ (λ a is. inl (record {
      pieces = it.0;
      keeps = it.1;
      calls = c.in-Ok.book.calls;
      stand = stand;
      stands = it.2;
      holds = holds;
      is_day = c.kept_book_is_day.ensures it.0 c.in-Ok.book.calls stand it.2 holds;
      told = is ∙ ap (λ r. one r 0) c.replayed-row.ensures.is;
    })) c.of_one.ensures

pub returns-in-Err-clause-audited : goal.returns-in-Err-clause-audited
returns-in-Err-clause-audited g c clean = IfOk-weaker c.of_replay_fault.result _ _ (λ a t. inr (c.in-Err.why, c.in-Err.ensures.differs clean, t)) c.of_replay_fault.ensures
