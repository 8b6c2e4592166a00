use Rattle.std.proofs.Common.{length, subst}
use Rattle.std.proofs.lemmas.Result.{IfOk-weaker}
use Rattle.gd_machine.specs.History.{History}
use Rattle.gd_reconcile.specs.Fitting.{lists_of}
use Rattle.gd_reconcile.specs.Answering.{AreQueries}
use Rattle.gd_reconcile.proofs.Queries.{all_answered}
use Rattle.gd_reconcile.proofs.refusals.first_unanswered.Goals as goal

pub returns : goal.returns
returns c =
    let lists = lists_of c.args.lists.now in
    let queries = c.in_ok-queries.queries.items in
    let are : AreQueries (length c.args.book.now.history) lists (length lists) 0 queries =
    subst (λ (h : History). AreQueries (length h) lists (length lists) 0 queries) c.history.ensures.is c.in_ok-queries.ensures.all in
    IfOk-weaker c.first_wrong.result _ _ (λ least is. all_answered c.args.book.now.day c.args.book.now.history lists queries least are is) (rw c.as_slice.ensures.value at c.first_wrong.ensures)
