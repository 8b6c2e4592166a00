use Rattle.std.proofs.Common.{arith}
use Rattle.gd_reconcile.specs.Fitting.{lists_of}
use Rattle.gd_reconcile.proofs.Walks.{past_at}
use Rattle.gd_reconcile.proofs.Queries.{queries_next}
use Rattle.gd_reconcile.proofs.refusals.more_queries.Goals as goal

pub returns : goal.returns
returns c =
    queries_next c.args.most (lists_of c.args.lists.now) c.args.at c.loop-index.index _
    (past_at c.args.lists.now c.args.at c.loop-index.index c.index-lists-at.result c.requires.within c.index-lists-at.is (omega (arith, c.len-index-end.ensures)))
    c.loop-index.invariant
