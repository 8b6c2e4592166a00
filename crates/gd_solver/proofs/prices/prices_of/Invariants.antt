use Rattle.std.proofs.Common.{◌≡◌, ℕ, ◌<◌, ◌^◌, length, map, IsTrue}
use Rattle.std.specs.Prelude.{pos}
use Rattle.gd_rules.specs.Priced.{price}
use Rattle.gd_question.specs.Nodes.{start, stop}
use Rattle.gd_scale.specs.Laws.{less}
use Rattle.gd_mincost.specs.Settling.{potential}
use Rattle.gd_solver.proofs.prices.prices_of.Given as goal

-- The prices of the elements so far.
abbrev pub invariant-loop-element : goal.invariant-loop-element
invariant-loop-element g l = record {
  count : length (map g.C.Cost.meaning l.prices.items) ≡ l.element;
  falls : (e : ℕ) → e < l.element → price g.C.Cost.scale (map g.C.Cost.meaning l.prices.items) e ≡ less g.C.Cost.scale (potential g.C.Cost.scale (map g.C.Cost.meaning l.potentials) (start l.network.question.asked e)) (potential g.C.Cost.scale (map g.C.Cost.meaning l.potentials) (stop l.network.question.asked e));
  small : (e : ℕ) → e < l.element → IsTrue (g.C.Cost.within (pos (2 ^ 40)) (price g.C.Cost.scale (map g.C.Cost.meaning l.prices.items) e));
}
