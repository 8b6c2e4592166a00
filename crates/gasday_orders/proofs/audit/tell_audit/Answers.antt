use Rattle.std.proofs.Common.{◌≡◌, Some, IfOk, refl, sym, subst}
use Rattle.gasday_part.specs.AnswerSeen.{answer_seen}
use Rattle.gasday_archive.specs.Archives.{no_store}
use Rattle.gasday_archive.specs.Runs.{TellsOf}
use Rattle.gasday_orders.specs.Audited.{TellsAudit}
use Rattle.gasday_orders.proofs.audit.tell_audit.Goals as goal

pub returns-in_default : goal.returns-in_default
returns-in_default g c = record {
  told = no_store;
  means = subst (λ o. TellsOf g.S.Store (TellsAudit g.S.Store c.args.each) o c.unopened.result.archive no_store) (sym c.in_default.is) (c.unopened.ensures.archive, refl);
  is = subst (λ r. IfOk r (λ a. answer_seen a ≡ no_store)) (sym c.unopened.ensures.answer) c.of_no_store.ensures;
}

pub returns : goal.returns
returns g c =
    let t = c.audit_file-answer.ensures.told in
    record {
      told = t.told;
      means = subst (λ o. TellsOf g.S.Store (TellsAudit g.S.Store c.args.each) o (Some c.audit_file-answer.new.conn) t.told) (sym c.in-Ok.is) (λ clean. (c.audit_file-answer.ensures.clean clean, t.means clean));
      is = t.is;
    }
