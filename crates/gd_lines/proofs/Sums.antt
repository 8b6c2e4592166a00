-- Sums over some of the lines' keys, when what counts for one key changes.
use Rattle.std.proofs.Common.{◌≡◌, ℕ, ◌+◌, ◌*◌, ◌≤◌, Bool, true, false, cond, List, [], ◌∷◌, ◌++◌, length, filter, refl, sym, ap, ◌∙◌, subst, arith}
use Rattle.std.specs.Prelude.{◌||◌, sum_by}
use Rattle.std.proofs.lemmas.Map.Keys.{IsDistinct-head, IsDistinct-tail}
use Rattle.std.specs.List.{list_any, IsDistinct, AllByRecursion}
use Rattle.std.proofs.lemmas.Bool.{false≢true}
use Rattle.std.proofs.lemmas.List.Elements.{filter-append}
use Rattle.std.proofs.lemmas.List.Sums.{sum_by-append, sum_by-cons, sum_by-le}
use Rattle.std.proofs.Math.Nat.{mul-le-mul_right}
use Rattle.gd_rules.specs.Lines.{Key, same_key, entered}
use Rattle.gd_lines.proofs.Same.{key_is, key_self}

-- what counts for the keys that pass
abbrev pub total : (Key → Bool) → (Key → ℕ) → List Key → ℕ
total p f keys = sum_by f (filter p keys)

-- and for one key
abbrev pub part : (Key → Bool) → (Key → ℕ) → Key → ℕ
part p f key = cond (p key) (f key) 0

total_cons : (p : Key → Bool) (f : Key → ℕ) (x : Key) (xs : List Key) → total p f (x ∷ xs) ≡ part p f x + total p f xs
total_cons p f x xs = go (p x)
  where
    go : (b : Bool) → sum_by f (cond b (x ∷ filter p xs) (filter p xs)) ≡ cond b (f x) 0 + sum_by f (filter p xs)
    go true = sum_by-cons f x (filter p xs)
    go false = omega arith

pub total_push : (p : Key → Bool) (f : Key → ℕ) (xs : List Key) (x : Key) → total p f (xs ++ x ∷ []) ≡ total p f xs + part p f x
total_push p f xs x = ap (sum_by f) (filter-append p xs (x ∷ [])) ∙ sum_by-append f (filter p xs) (filter p (x ∷ [])) ∙ ap (λ n. total p f xs + n) (go (p x))
  where
    go : (b : Bool) → sum_by f (cond b (x ∷ []) []) ≡ cond b (f x) 0
    go true = omega arith
    go false = refl

part_same : (p : Key → Bool) (f g : Key → ℕ) (x : Key) → f x ≡ g x → part p f x ≡ part p g x
part_same p f g x e = ap (λ n. cond (p x) n 0) e

module _ (p : Key → Bool) (f g : Key → ℕ) (key : Key) (agree : (y : Key) → same_key key y ≡ false → f y ≡ g y) where
  total_same : (xs : List Key) → AllByRecursion (λ y. same_key key y ≡ false) xs → total p f xs ≡ total p g xs
  total_same [] h = refl
  total_same (x ∷ xs) h =
      let rest = total_same xs h.1 in
      let here = part_same p f g x (agree x h.0) in
      omega (arith, rest, here, total_cons p f x xs, total_cons p g x xs)

  changed_at : (x : Key) (xs : List Key) → IsDistinct same_key (x ∷ xs) → key ≡ x → total p g (x ∷ xs) + part p f key ≡ total p f (x ∷ xs) + part p g key
  changed_at x xs h e =
      let rest = total_same xs (subst (λ y. AllByRecursion (λ z. same_key y z ≡ false) xs) (sym e) (IsDistinct-head same_key x xs h)) in
      let old = ap (part p f) e in
      let new = ap (part p g) e in
      omega (arith, rest, old, new, total_cons p f x xs, total_cons p g x xs)

  changed_behind : (x : Key) (xs : List Key) → same_key key x ≡ false → total p g xs + part p f key ≡ total p f xs + part p g key → total p g (x ∷ xs) + part p f key ≡ total p f (x ∷ xs) + part p g key
  changed_behind x xs e rest =
      let here = part_same p f g x (agree x e) in
      omega (arith, rest, here, total_cons p f x xs, total_cons p g x xs)

  -- what counts for one key, which stands there once, changes the sum by as much
  pub total_changed : (xs : List Key) → IsDistinct same_key xs → list_any (same_key key) xs ≡ true → total p g xs + part p f key ≡ total p f xs + part p g key
  total_changed [] h e = absurd (false≢true e)
  total_changed (x ∷ xs) h e = go (same_key key x) refl e (λ more. total_changed xs (IsDistinct-tail same_key x xs h) more)
    where
      go : (v : Bool) → same_key key x ≡ v → (v || list_any (same_key key) xs) ≡ true → (list_any (same_key key) xs ≡ true → total p g xs + part p f key ≡ total p f xs + part p g key) → total p g (x ∷ xs) + part p f key ≡ total p f (x ∷ xs) + part p g key
      go true here any rest = changed_at x xs h (key_is key x here)
      go false here any rest = changed_behind x xs here (rest any)

-- what counts for a key is within the sum
pub part_within : (p : Key → Bool) (f : Key → ℕ) (key : Key) (xs : List Key) → IsDistinct same_key xs → list_any (same_key key) xs ≡ true → part p f key ≤ total p f xs
part_within p f key xs h e =
    let g : Key → ℕ = λ y. cond (same_key key y) 0 (f y) in
    let changed = total_changed p f g key (λ y apart. ap (λ b. cond b 0 (f y)) (sym apart)) xs h e in
    let none : part p g key ≡ 0 = nothing (p key) (same_key key key) (key_self key) in
    omega (arith, changed, none)
  where
    nothing : (b s : Bool) → s ≡ true → cond b (cond s 0 (f key)) 0 ≡ 0
    nothing false s h = refl
    nothing true true h = refl
    nothing true false h = absurd (false≢true h)

length_filter : (p : Key → Bool) (xs : List Key) → length (filter p xs) ≤ length xs
length_filter p [] = omega arith
length_filter p (x ∷ xs) = go (p x) (length_filter p xs)
  where
    go : (b : Bool) → length (filter p xs) ≤ length xs → length (cond b (x ∷ filter p xs) (filter p xs)) ≤ length (x ∷ xs)
    go true h = omega (arith, h)
    go false h = omega (arith, h)

-- sums are small
pub total_small : (p : Key → Bool) (f : Key → ℕ) (m : ℕ) (xs : List Key) → ((y : Key) → f y ≤ m) → total p f xs ≤ length xs * m
total_small p f m xs h =
    let a = sum_by-le f m (filter p xs) (λ k d lt. h _) in
    let b = mul-le-mul_right m (length_filter p xs) in
    omega (arith, a, b)

-- a key for which nothing counts may be entered
pub total_entered : (p : Key → Bool) (f : Key → ℕ) (xs : List Key) (key : Key) → (list_any (same_key key) xs ≡ false → f key ≡ 0) → total p f (entered xs key) ≡ total p f xs
total_entered p f xs key none = go (list_any (same_key key) xs) none
  where
    go : (v : Bool) → (v ≡ false → f key ≡ 0) → total p f (cond v xs (xs ++ key ∷ [])) ≡ total p f xs
    go true h = refl
    go false h = total_push p f xs key ∙ (let e : part p f key ≡ 0 = ap (λ n. cond (p key) n 0) (h refl) ∙ nil (p key) in omega (arith, e))
      where
        nil : (b : Bool) → let none : ℕ = 0 in cond b none none ≡ none
        nil true = refl
        nil false = refl
