use Rattle.std.proofs.Common.{◌≡◌, Some, IfOk, refl, sym, subst}
use Rattle.gd_day.specs.Calls.{calls_of}
use Rattle.gasday_part.specs.AnswerSeen.{answer_seen}
use Rattle.gasday_archive.specs.Archives.{no_store}
use Rattle.gasday_archive.specs.Runs.{TellsMade, TellsOf}
use Rattle.gasday_archive.proofs.opened.tell_book.Goals as goal

pub returns-in_default : goal.returns-in_default
returns-in_default g c = record {
  told = no_store;
  means = subst (λ o. TellsOf g.S.Store (TellsMade g.S.Store c.args.is_strict c.args.book.now.day (calls_of c.args.rows.items)) o c.unopened.result.archive no_store) (sym c.in_default.is) (c.unopened.ensures.archive, refl);
  is = subst (λ r. IfOk r (λ a. answer_seen a ≡ no_store)) (sym c.unopened.ensures.answer) c.of_no_store.ensures;
}

pub returns : goal.returns
returns g c =
    let t = c.tell_in_archive-answer.ensures.made in
    record {
      told = t.told;
      means = subst (λ o. TellsOf g.S.Store (TellsMade g.S.Store c.args.is_strict c.args.book.now.day (calls_of c.args.rows.items)) o (Some c.tell_in_archive-answer.new.conn) t.told) (sym c.in-Ok.is) (λ clean. (c.tell_in_archive-answer.ensures.clean clean, t.means clean));
      is = t.is;
    }
