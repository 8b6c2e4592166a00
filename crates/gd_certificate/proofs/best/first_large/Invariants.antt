use Rattle.std.proofs.Common.{◌^◌, map, IsTrue}
use Rattle.std.specs.Prelude.{pos}
use Rattle.gd_rules.specs.Priced.{price}
use Rattle.gd_schedule.specs.First.{Each}
use Rattle.gd_certificate.proofs.best.first_large.Given as goal

-- Those so far are not too large.
abbrev pub invariant-loop-at : goal.invariant-loop-at
invariant-loop-at g l = Each l.at (λ e. IsTrue (g.C.Cost.within (pos (2 ^ 40)) (price g.C.Cost.scale (map g.C.Cost.meaning l.prices) e)))
