-- How far a potential falls along an arc.
use Rattle.std.proofs.Common.{◌≡◌, ℕ, ◌+◌, ◌<◌, ◌^◌, ◌++◌, ◌∷◌, [], List, length, get_or, map, Bool, true, arith, inl, inr, subst, sym, ap, ◌∙◌, refl}
use Rattle.std.proofs.lemmas.Bool.{cases_lt}
use Rattle.std.proofs.lemmas.List.{get_or_append_left, get_or_at, get_or-map, length-map, length-append}
use Rattle.std.specs.Prelude.{ℤ, pos}
use borrow.Author.Differences.{ints}
use Rattle.gd_scale.specs.Scale.{Scale}
use Rattle.gd_scale.specs.Laws.{IsBounded}

module _ {V : Type 0} (s : Scale V) (within : ℤ → V → Bool) (b : IsBounded s within) where
  -- a potential is small enough to be subtracted
  pub is_small : (x : V) → within (pos (2 ^ 39)) x ≡ true → within (pos (2 ^ 100)) x ≡ true
  is_small x h = b.wider (pos (2 ^ 39)) (pos (2 ^ 100)) x (omega (arith, ints)) h

  -- the difference of two is at most twice as large
  pub fall_small : (x y : V) → within (pos (2 ^ 39)) x ≡ true → within (pos (2 ^ 39)) y ≡ true → within (pos (2 ^ 40)) (s.plus x (s.minus y)) ≡ true
  fall_small x y h k = b.plus (pos (2 ^ 39)) (pos (2 ^ 39)) x (s.minus y) h (b.minus (pos (2 ^ 39)) y k)

-- what holds of each entry holds of each with one more
pub each_with : {V : Type 0} (P : ℕ → V → Type 0) (none : V) (xs : List V) (x : V) (k : ℕ) → length xs ≡ k → ((e : ℕ) → e < k → P e (get_or xs e none)) → P k x → (e : ℕ) → e < k + 1 → P e (get_or (xs ++ x ∷ []) e none)
each_with P none xs x k size h last e below = elim (cases_lt e k) [
  | inl g ↦ subst (P e) (sym (get_or_append_left xs (x ∷ []) none e (subst (λ n. e < n) (sym size) g))) (h e g)
  | inr g ↦ let same : k ≡ e = omega (arith, g, below) in subst (λ m. P m (get_or (xs ++ x ∷ []) m none)) same (subst (P k) (sym (get_or_at xs x [] none k size)) last)
]

-- an entry that was read, in the list of meanings
pub read : {X V : Type 0} (f : X → V) (items : List X) (p : ℕ) (r : X) (none : V) → p < length (map f items) → r ≡ get_or items p r → f r ≡ get_or (map f items) p none
read f items p r none h e = sym (get_or-map f items p r none (subst (λ n. p < n) (length-map items f) h) ∙ ap f (sym e))

pub map_with : {X V : Type 0} (f : X → V) (xs : List X) (x : X) → map f (xs ++ x ∷ []) ≡ map f xs ++ f x ∷ []
map_with f [] x = refl
map_with f (y ∷ xs) x = ap (λ l. f y ∷ l) (map_with f xs x)

pub length_with : {X : Type 0} (xs : List X) (x : X) → length (xs ++ x ∷ []) ≡ length xs + 1
length_with xs x = length-append xs (x ∷ [])
