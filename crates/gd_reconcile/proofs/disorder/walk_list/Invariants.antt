use Rattle.gd_reconcile.specs.Fitting.{lists_of}
use Rattle.gd_reconcile.specs.Walking.{Walked}
use Rattle.gd_reconcile.proofs.disorder.walk_list.Given as goal

abbrev pub invariant-loop-index : goal.invariant-loop-index
invariant-loop-index l = Walked l.history (lists_of l.lists) l.at l.index l.given.items l.last.number l.last.length
