use Rattle.gd_reconcile.specs.Fitting.{lists_of}
use Rattle.gd_reconcile.proofs.Misfits.{first_misfit}
use Rattle.gd_reconcile.proofs.reconciling.misfit_of.Goals as goal

pub returns : goal.returns
returns c =
    first_misfit c.args.book.now.day c.args.book.now.history (lists_of c.args.lists.now) c.in_ok-disorder.disorder c.in_ok-unanswered.unanswered c.first_of.result
    (rw c.history.ensures.is at c.in_ok-disorder.ensures) c.in_ok-unanswered.ensures c.first_of.ensures.none c.first_of.ensures.some
