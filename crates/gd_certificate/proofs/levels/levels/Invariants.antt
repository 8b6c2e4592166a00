use Rattle.std.proofs.Common.{◌≡◌, ℕ, ◌+◌, ◌*◌, ◌^◌, ◌<◌, length, map, get_or, IsTrue}
use Rattle.std.specs.Prelude.{pos}
use Rattle.gd_rules.specs.Question.Element.{Pool}
use Rattle.gd_tree.specs.Levels.{RisesBy}
use Rattle.gd_tree.specs.Grown.{Joins}
use Rattle.gd_certificate.proofs.levels.levels.Given as goal

-- The levels of the places joined so far.
abbrev pub invariant-loop-k : goal.invariant-loop-k
invariant-loop-k g l = record {
  count : length (map g.C.Cost.meaning l.levels.items) ≡ l.k + 1;
  joins : (j : ℕ) → j < l.k → Joins j (get_or l.question.asked.elements j (Pool 0));
  rises : (j : ℕ) → j < l.k → RisesBy g.C.Cost.scale (λ p. get_or (map g.C.Cost.meaning l.levels.items) p g.C.Cost.scale.none) (get_or (map g.C.Cost.meaning l.prices) j g.C.Cost.scale.none) (get_or l.question.asked.elements j (Pool 0));
  small : (p : ℕ) → IsTrue (g.C.Cost.within (pos (2 ^ 40 * l.k)) (get_or (map g.C.Cost.meaning l.levels.items) p g.C.Cost.scale.none));
}
