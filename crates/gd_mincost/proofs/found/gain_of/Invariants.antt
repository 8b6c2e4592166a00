use Rattle.std.proofs.Common.{◌≡◌, map, drop}
use Rattle.gd_mincost.specs.Gains.{gain_along}
use Rattle.gd_mincost.proofs.found.gain_of.Given as goal

-- with what the steps that are left gain, it is what all gain
abbrev pub invariant-loop-step : goal.invariant-loop-step
invariant-loop-step g l =
    g.C.Cost.scale.plus (g.C.Cost.meaning l.gain) (gain_along g.C.Cost.scale (map g.C.Cost.meaning l.gains) (drop l.step-index l.walk))
    ≡ gain_along g.C.Cost.scale (map g.C.Cost.meaning l.gains) l.walk
