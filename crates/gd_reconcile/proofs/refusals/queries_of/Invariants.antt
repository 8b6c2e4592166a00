use Rattle.gd_reconcile.specs.Fitting.{lists_of}
use Rattle.gd_reconcile.specs.Answering.{AreQueries}
use Rattle.gd_reconcile.proofs.refusals.queries_of.Given as goal

abbrev pub invariant-loop-list : goal.invariant-loop-list
invariant-loop-list l = AreQueries l.most (lists_of l.lists) l.list 0 l.queries.items
