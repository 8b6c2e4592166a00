use Rattle.std.proofs.Common.{◌-◌, length, map}
use Rattle.gd_mincost.specs.Gains.{value, most_worth}
use Rattle.gd_flow.specs.Feasible.{IsFeasible}
use Rattle.gd_mincost.proofs.best.rise.Given as goal

abbrev pub invariant-loop-walks : goal.invariant-loop-walks
invariant-loop-walks g l = IsFeasible l.network.arcs l.flow

-- how many ranks lie above that of what the flow is worth
abbrev pub decreases-loop-walks : goal.decreases-loop-walks
decreases-loop-walks g l =
    g.C.Cost.size (most_worth (length l.network.arcs))
    - g.C.Cost.rank (most_worth (length l.network.arcs)) (value g.C.Cost.scale (map g.C.Cost.meaning l.gains) l.network.arcs l.flow)
