-- Classes that no line has make no difference.
use Rattle.std.proofs.Common.{◌≡◌, ℕ, suc, zero, ◌+◌, ◌<◌, ◌≤◌, List, length, arith, Bool, true, false, ap, ◌∙◌, refl, inl, inr}
use Rattle.std.specs.Prelude.{if◌then◌else◌, ◌==◌, ◌↔◌}
use borrow.Author.Tests.{eqb-true}
use Rattle.std.proofs.lemmas.Bool.{cases_lt}
use Rattle.gd_scale.specs.Sum.{sum_nat}
use Rattle.gd_rules.specs.Question.{Question, line}
use Rattle.gd_rules.specs.Schedule.{class_total, quantity}
use Rattle.gd_rules.specs.Classes.{HasClasses, HasBetterAmong, IsBestAmong}

none : (n : ℕ) (b : ℕ → Bool) (f : ℕ → ℕ) → ((i : ℕ) → i < n → b i ≡ true → ⊥) → sum_nat n (λ i. if b i then f i else 0) ≡ 0
none zero b f h = refl
none (suc n) b f h = ap (λ w. w + (if b n then f n else 0)) (none n b f (λ i k. h i (omega arith))) ∙ last (b n) (f n) (h n (omega arith))
  where
    last : (c : Bool) (m : ℕ) → (c ≡ true → ⊥) → 0 + (if c then m else 0) ≡ 0
    last true m e = absurd (e refl)
    last false m e = omega arith

-- A class above those of the lines has no total.
pub no_total : (n : ℕ) (q : Question) (x : List ℕ) (class : ℕ) → HasClasses n q → n < class → class_total q x class ≡ 0
no_total n q x class h k = none (length q.lines) (λ i. (line q i).class == class) (quantity x) (λ i j e. let w : (line q i).class ≡ class = eqb-true (line q i).class class e in absurd (omega (arith, w, (h i j).1, k)))

more : (m n : ℕ) (q : Question) (a b : List ℕ) → m ≤ n → HasBetterAmong m q a b → HasBetterAmong n q a b
more m n q a b h (class, lo, hi, level, above) = (class, lo, omega arith, level, above)

fewer : (m n : ℕ) (q : Question) (a b : List ℕ) → HasClasses m q → HasBetterAmong n q a b → HasBetterAmong m q a b
fewer m n q a b h (class, lo, hi, level, above) = elim (cases_lt m class) [
  | inl k ↦ absurd (omega (arith, no_total m q a class h k, above))
  | inr k ↦ (class, lo, k, level, above)
]

-- Best by the classes that lines have is best by more classes.
pub best_among : (m n : ℕ) (q : Question) (x : List ℕ) → m ≤ n → HasClasses m q → (IsBestAmong m q x ↔ IsBestAmong n q x)
best_among m n q x h k = (
  λ p. (p.0, λ other a b. p.1 other a (fewer m n q other x k b)),
  λ p. (p.0, λ other a b. p.1 other a (more m n q other x h b)),
)
