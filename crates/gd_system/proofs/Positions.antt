-- The first place that passes a test, and what stands at a place, in lists joined end to end.
use Rattle.std.proofs.Common.{◌≡◌, ℕ, suc, zero, ◌+◌, ◌-◌, ◌≤◌, Bool, true, false, cond, List, [], ◌∷◌, ◌++◌, length, map, Option, Some, None, refl, sym, ap, ◌∙◌, arith}
use Rattle.std.specs.Prelude.{if◌then◌else◌, position, is_some, nat_lt, not, ◌||◌, slice_get}
use Rattle.std.specs.List.{list_any, position_or_len}
use Rattle.std.specs.Option.{option_map}
use Rattle.std.proofs.lemmas.Bool.Decides.{nat_tests}
use Rattle.std.proofs.lemmas.Option.{slice_get-map}

module _ {X : Type 0} (p : X → Bool) where
  position-cons : (x : X) (xs : List X) → position p (x ∷ xs) ≡ (if p x then Some 0 else option_map suc (position p xs))
  position-cons x xs = go (p x) (position_or_len p xs) (length xs)
    where
      go : (b : Bool) (n len : ℕ) → cond (nat_lt (cond (not b) (1 + n) 0) (suc len)) (Some (cond (not b) (1 + n) 0)) None ≡ (if b then Some 0 else option_map suc (cond (nat_lt n len) (Some n) None))
      go true n len = let yes : nat_lt 0 (suc len) ≡ true = grind (arith, nat_tests) in ap (λ v. cond v (Some 0) None) yes
      go false n len = more (nat_lt n len) refl
        where
          more : (v : Bool) → nat_lt n len ≡ v → cond (nat_lt (1 + n) (suc len)) (Some (1 + n)) None ≡ option_map suc (cond (nat_lt n len) (Some n) None)
          more true e =
              let yes : nat_lt (1 + n) (suc len) ≡ true = grind (arith, nat_tests) in
              let one : 1 + n ≡ suc n = omega arith in
              rw (e, yes, one) refl
          more false e =
              let no : nat_lt (1 + n) (suc len) ≡ false = grind (arith, nat_tests) in
              rw (e, no) refl

  -- a test passes at some place exactly if it passes somewhere
  pub is_some-position : (xs : List X) → is_some (position p xs) ≡ list_any p xs
  is_some-position [] = refl
  is_some-position (x ∷ xs) = ap is_some (position-cons x xs) ∙ go (p x) (position p xs) (is_some-position xs)
    where
      go : (b : Bool) (r : Option ℕ) → is_some r ≡ list_any p xs → is_some (if b then Some 0 else option_map suc r) ≡ (b || list_any p xs)
      go true r e = refl
      go false None e = e
      go false (Some n) e = e

  -- the first place in two lists is that in the first, and else in the second
  pub position_first : (xs ys : List X) (i : ℕ) → position p xs ≡ Some i → position p (xs ++ ys) ≡ Some i
  position_first [] ys i e = cc
  position_first (x ∷ xs) ys i e = position-cons x (xs ++ ys) ∙ go (p x) (position p xs) (λ j. position_first xs ys j) (sym (position-cons x xs) ∙ e)
    where
      go : (b : Bool) (r : Option ℕ) → ((j : ℕ) → r ≡ Some j → position p (xs ++ ys) ≡ Some j) → (if b then Some 0 else option_map suc r) ≡ Some i → (if b then Some 0 else option_map suc (position p (xs ++ ys))) ≡ Some i
      go true r h e = e
      go false None h e = cc
      go false (Some j) h e = ap (option_map suc) (h j refl) ∙ e

  pub position_rest : (xs ys : List X) → position p xs ≡ None → position p (xs ++ ys) ≡ option_map (λ i. length xs + i) (position p ys)
  position_rest [] ys e = none (position p ys)
    where
      none : (r : Option ℕ) → r ≡ option_map (λ i. 0 + i) r
      none None = refl
      none (Some i) = let z : 0 + i ≡ i = omega arith in ap Some (sym z)
  position_rest (x ∷ xs) ys e = position-cons x (xs ++ ys) ∙ go (p x) (position p xs) (position p ys) (position_rest xs ys) (sym (position-cons x xs) ∙ e)
    where
      go : (b : Bool) (r s : Option ℕ) → (r ≡ None → position p (xs ++ ys) ≡ option_map (λ i. length xs + i) s) → (if b then Some 0 else option_map suc r) ≡ None
          → (if b then Some 0 else option_map suc (position p (xs ++ ys))) ≡ option_map (λ i. suc (length xs) + i) s
      go true r s h e = cc
      go false (Some j) s h e = cc
      go false None None h e = ap (option_map suc) (h refl)
      go false None (Some i) h e = let z : suc (length xs + i) ≡ suc (length xs) + i = omega arith in ap (option_map suc) (h refl) ∙ ap Some z

module _ {X : Type 0} where
  -- what stands in the first of two lists
  pub slice_get_first : (xs ys : List X) (i : ℕ) (x : X) → slice_get xs i ≡ Some x → slice_get (xs ++ ys) i ≡ Some x
  slice_get_first [] ys i x e = cc
  slice_get_first (y ∷ xs) ys zero x e = e
  slice_get_first (y ∷ xs) ys (suc i) x e = slice_get_first xs ys i x e

  -- what stands in the second
  pub slice_get_rest : (xs ys : List X) (n i : ℕ) → length xs ≡ n → n ≤ i → slice_get (xs ++ ys) i ≡ slice_get ys (i - n)
  slice_get_rest [] ys n i e h = let z : i - n ≡ i = omega arith in ap (slice_get ys) (sym z)
  slice_get_rest (x ∷ xs) ys n zero e h = absurd (omega arith)
  slice_get_rest (x ∷ xs) ys n (suc i) e h =
      let z : i - length xs ≡ suc i - n = omega arith in
      slice_get_rest xs ys (length xs) i refl (omega arith) ∙ ap (slice_get ys) z

-- what stands in the second of two lists, made by f
pub slice_get_made : {X Y : Type 0} (f : Y → X) (xs : List X) (ys : List Y) (n i : ℕ) (y : Y) → length xs ≡ n → n ≤ i → slice_get ys (i - n) ≡ Some y → slice_get (xs ++ map f ys) i ≡ Some (f y)
slice_get_made f xs ys n i y e h at = slice_get_rest xs (map f ys) n i e h ∙ slice_get-map f ys (i - n) ∙ ap (option_map f) at
