use Rattle.std.proofs.Common.{reverse}
use Rattle.gd_flow.proofs.WayBack.{IsBack}
use Rattle.gd_flow.proofs.search.Search.walk_to.Given as goal

abbrev pub invariant-loop-at : goal.invariant-loop-at
invariant-loop-at l = IsBack l.network.arcs l.flow l.self l.fn.last l.at (reverse l.walk.items)

abbrev pub decreases-loop-at : goal.decreases-loop-at
decreases-loop-at l = l.at
