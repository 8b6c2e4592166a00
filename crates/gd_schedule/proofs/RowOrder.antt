-- Two rows of eight numbers, compared from the first on.
use Rattle.std.proofs.Common.{◌≡◌, ℕ, suc, ◌+◌, ◌-◌, ◌<◌, ◌≤◌, List, [], ◌∷◌, length, get_or, refl, sym, ap, ◌∙◌, subst, arith, inl, inr}
use Rattle.std.specs.declared.cmp.Ordering.{Ordering}
use Rattle.std.specs.declared.cmp.Ordering.TheVariants.{Less, Equal, Greater}
use Rattle.std.specs.Ordering.{nat_cmp, ordering_then, MatchOrdering}
use Rattle.std.specs.Cmp.Lexicographic.{slice_cmp}
use Rattle.std.proofs.lemmas.Bool.{cases_lt}
use Rattle.std.proofs.lemmas.Cmp.{ranked}
use Rattle.gd_schedule.specs.Order.{IsOrderOf, IsByClass}

-- f and g are level up to class k, and what is left of the rows are their numbers from there on.
rest : (xs ys : List ℕ) (k : ℕ) (f g : ℕ → ℕ) → k + length xs ≡ 8 → k + length ys ≡ 8
    → ((c : ℕ) → c < length xs → get_or xs c 0 ≡ f (k + c + 1)) → ((c : ℕ) → c < length ys → get_or ys c 0 ≡ g (k + c + 1))
    → ((c : ℕ) → 1 ≤ c → c ≤ k → f c ≡ g c) → IsOrderOf f g (slice_cmp nat_cmp xs ys)
rest [] [] k f g m n p q level = λ c h j. level c h (omega arith)
rest [] (y ∷ ys) k f g m n p q level = absurd (omega arith)
rest (x ∷ xs) [] k f g m n p q level = absurd (omega arith)
rest (x ∷ xs) (y ∷ ys) k f g m n p q level =
    at (nat_cmp x y) (ranked x y (nat_cmp x y) refl)
    (λ e. rest xs ys (k + 1) f g (omega arith) (omega arith)
    (λ c h. p (suc c) (omega arith) ∙ ap f (omega arith)) (λ c h. q (suc c) (omega arith) ∙ ap g (omega arith))
    (λ c h j. more e c h j))
  where
    first : f (k + 1) ≡ x
    first = ap f (omega arith) ∙ sym (p 0 (omega arith))

    second : g (k + 1) ≡ y
    second = ap g (omega arith) ∙ sym (q 0 (omega arith))

    more : x ≡ y → (c : ℕ) → 1 ≤ c → c ≤ k + 1 → f c ≡ g c
    more e c h j = elim (cases_lt c (k + 1)) as (λ _. f c ≡ g c) [
      | inl i ↦ level c h (omega arith)
      | inr i ↦ let l : c ≡ k + 1 = omega arith in ap f l ∙ first ∙ e ∙ sym second ∙ sym (ap g l)
    ]

    at : (o : Ordering) → MatchOrdering o (x < y) (x ≡ y) (y < x) → (x ≡ y → IsOrderOf f g (slice_cmp nat_cmp xs ys)) → IsOrderOf f g (ordering_then o (slice_cmp nat_cmp xs ys))
    at Less h after = (k + 1, omega arith, omega arith, λ c i j. sym (level c i (omega arith)), omega (arith, first, second))
    at Equal h after = after h
    at Greater h after = (k + 1, omega arith, omega arith, λ c i j. level c i (omega arith), omega (arith, first, second))

numbered : (f : ℕ → ℕ) (xs : List ℕ) (c : ℕ) → IsByClass f xs → c < length xs → get_or xs c 0 ≡ f (0 + c + 1)
numbered f xs c p h =
    let here : c ≡ (c + 1) - 1 = omega arith in
    let there : c + 1 ≡ 0 + c + 1 = omega arith in
    ap (λ i. get_or xs i 0) here ∙ p.each (c + 1) (omega arith) (omega (arith, p.sized)) ∙ ap f there

-- Rows of numbers by class, compared from the first on, tell the order by class.
pub by_class : (f g : ℕ → ℕ) (xs ys : List ℕ) (o : Ordering) → IsByClass f xs → IsByClass g ys → o ≡ slice_cmp nat_cmp xs ys → IsOrderOf f g o
by_class f g xs ys o p q e =
    subst (IsOrderOf f g) (sym e)
    (rest xs ys 0 f g (omega (arith, p.sized)) (omega (arith, q.sized)) (λ c h. numbered f xs c p h) (λ c h. numbered g ys c q h) (λ c h j. absurd (omega arith)))
