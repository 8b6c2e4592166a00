use Rattle.std.proofs.Common.{◌≡◌, ℕ, suc, ◌+◌, ◌<◌, ◌≤◌, length, true, map}
use Rattle.gd_mincost.specs.Stillness.{IsStillBack, GainsNoneBack}
use Rattle.gd_mincost.proofs.still.are_still_back.Given as goal

abbrev pub invariant-loop-step : goal.invariant-loop-step
invariant-loop-step g l = record {
  still : (a : ℕ) → a < length l.network.arcs → length l.network.arcs ≤ a + l.step → IsStillBack g.C.Cost.scale (λ class tenth. g.C.Cost.meaning (g.C.ByClass.at class tenth)) l.network.question.asked l.network.arcs l.flow (map g.C.Cost.meaning l.potentials) a;
  known : l.is_known ≡ true → (k : ℕ) → suc (k + l.step) ≡ length l.network.arcs → GainsNoneBack g.C.Cost.scale (λ class tenth. g.C.Cost.meaning (g.C.ByClass.at class tenth)) l.network.question.asked l.network.arcs (map g.C.Cost.meaning l.potentials) k;
}
