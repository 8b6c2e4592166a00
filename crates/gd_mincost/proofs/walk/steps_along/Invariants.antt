use Rattle.std.proofs.Common.{◌≡◌, map, take}
use Rattle.gd_mincost.specs.Residual.{step_at}
use Rattle.gd_mincost.proofs.walk.steps_along.Given as goal

abbrev pub invariant-loop-link : goal.invariant-loop-link
invariant-loop-link l = l.along.items ≡ map (step_at l.steps) (take l.link-index l.walk)
