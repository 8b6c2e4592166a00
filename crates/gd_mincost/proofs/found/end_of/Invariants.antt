use Rattle.std.proofs.Common.{ℕ, drop}
use Rattle.gd_network.specs.Steps.{Follows}
use Rattle.gd_mincost.proofs.found.end_of.Given as goal

-- what the steps that are left lead to, the whole walk leads to
abbrev pub invariant-loop-step : goal.invariant-loop-step
invariant-loop-step l = (end : ℕ) → Follows l.network.arcs l.at (drop l.step-index l.walk) end → Follows l.network.arcs l.from l.walk end
