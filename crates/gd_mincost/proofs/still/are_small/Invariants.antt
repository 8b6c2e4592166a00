use Rattle.std.proofs.Common.{ℕ, ◌<◌, ◌^◌, map, IsTrue}
use Rattle.std.specs.Prelude.{pos}
use Rattle.gd_mincost.specs.Settling.{potential}
use Rattle.gd_mincost.proofs.still.are_small.Given as goal

abbrev pub invariant-loop-potential : goal.invariant-loop-potential
invariant-loop-potential g l = (node : ℕ) → node < l.potential-index → IsTrue (g.C.Cost.within (pos (2 ^ 39)) (potential g.C.Cost.scale (map g.C.Cost.meaning l.potentials) node))
