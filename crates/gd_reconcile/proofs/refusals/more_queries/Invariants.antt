use Rattle.gd_reconcile.specs.Fitting.{lists_of}
use Rattle.gd_reconcile.specs.Answering.{AreQueries}
use Rattle.gd_reconcile.proofs.refusals.more_queries.Given as goal

abbrev pub invariant-loop-index : goal.invariant-loop-index
invariant-loop-index l = AreQueries l.most (lists_of l.lists) l.at l.index l.queries.items
