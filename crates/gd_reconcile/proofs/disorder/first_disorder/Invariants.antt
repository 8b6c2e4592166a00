use Rattle.gd_reconcile.specs.Fitting.{lists_of}
use Rattle.gd_reconcile.specs.Walking.{Walked}
use Rattle.gd_reconcile.proofs.disorder.first_disorder.Given as goal

abbrev pub invariant-loop-list : goal.invariant-loop-list
invariant-loop-list l = Walked l.history (lists_of l.lists) l.list 0 l.given.items 0 0
