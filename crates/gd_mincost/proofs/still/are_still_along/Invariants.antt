use Rattle.std.proofs.Common.{◌≡◌, ℕ, ◌<◌, true, map}
use Rattle.gd_mincost.specs.Stillness.{IsStillAlong, GainsNoneAlong}
use Rattle.gd_mincost.proofs.still.are_still_along.Given as goal

abbrev pub invariant-loop-number : goal.invariant-loop-number
invariant-loop-number g l = record {
  still : (a : ℕ) → a < l.number → IsStillAlong g.C.Cost.scale (λ class tenth. g.C.Cost.meaning (g.C.ByClass.at class tenth)) l.network.question.asked l.network.arcs l.flow (map g.C.Cost.meaning l.potentials) a;
  known : l.is_known ≡ true → GainsNoneAlong g.C.Cost.scale (λ class tenth. g.C.Cost.meaning (g.C.ByClass.at class tenth)) l.network.question.asked l.network.arcs (map g.C.Cost.meaning l.potentials) l.number;
}
