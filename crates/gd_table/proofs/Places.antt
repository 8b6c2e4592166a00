-- Where a key stands among entries, and what a look-up finds there.
use Rattle.std.proofs.Common.{◌≡◌, ℕ, suc, zero, ◌+◌, ◌<◌, Bool, true, false, cond, List, [], ◌∷◌, ◌++◌, length, get_or, take, Option, Some, None, refl, sym, ap, subst, ◌∙◌, arith}
use Rattle.std.specs.Prelude.{if◌then◌else◌, position, is_some, nat_lt, not, slice_set, unwrap_or}
use Rattle.std.specs.List.{position_or_len, AllByRecursion, IsDistinct}
use Rattle.std.specs.Option.{option_map}
use Rattle.std.specs.Cmp.{IsEquivalence}
use Rattle.std.specs.Map.{keys_of, lookup, set_value}
use Rattle.std.proofs.lemmas.Bool.Decides.{nat_tests}

pub keys_push : {K V : Type 0} (es : List (K × V)) (e : K × V) → keys_of (es ++ e ∷ []) ≡ keys_of es ++ e.0 ∷ []
keys_push [] e = refl
keys_push (x ∷ es) e = ap (λ l. x.0 ∷ l) (keys_push es e)

module _ {K : Type 0} (t : K → Bool) where
  position_cons : (x : K) (xs : List K) → position t (x ∷ xs) ≡ (if t x then Some 0 else option_map suc (position t xs))
  position_cons x xs = go (t x) (position_or_len t xs) (length xs)
    where
      go : (b : Bool) (n len : ℕ) → cond (nat_lt (cond (not b) (1 + n) 0) (suc len)) (Some (cond (not b) (1 + n) 0)) None ≡ (if b then Some 0 else option_map suc (cond (nat_lt n len) (Some n) None))
      go true n len = let yes : nat_lt 0 (suc len) ≡ true = grind (arith, nat_tests) in ap (λ v. cond v (Some 0) None) yes
      go false n len = more (nat_lt n len) refl
        where
          more : (v : Bool) → nat_lt n len ≡ v → cond (nat_lt (1 + n) (suc len)) (Some (1 + n)) None ≡ option_map suc (cond (nat_lt n len) (Some n) None)
          more true e =
              let yes : nat_lt (1 + n) (suc len) ≡ true = grind (arith, nat_tests) in
              let one : 1 + n ≡ suc n = omega arith in
              rw (e, yes, one) refl
          more false e =
              let no : nat_lt (1 + n) (suc len) ≡ false = grind (arith, nat_tests) in
              rw (e, no) refl

  -- a place stays where more keys follow
  position_first : (xs ys : List K) (i : ℕ) → position t xs ≡ Some i → position t (xs ++ ys) ≡ Some i
  position_first [] ys i e = cc
  position_first (x ∷ xs) ys i e = position_cons x (xs ++ ys) ∙ go (t x) (position t xs) (λ j. position_first xs ys j) (sym (position_cons x xs) ∙ e)
    where
      go : (b : Bool) (r : Option ℕ) → ((j : ℕ) → r ≡ Some j → position t (xs ++ ys) ≡ Some j) → (if b then Some 0 else option_map suc r) ≡ Some i → (if b then Some 0 else option_map suc (position t (xs ++ ys))) ≡ Some i
      go true r h e = e
      go false None h e = cc
      go false (Some j) h e = ap (option_map suc) (h j refl) ∙ e

  -- a key that is new goes last
  position_last : (x : K) (xs : List K) → position t xs ≡ None → position t (xs ++ x ∷ []) ≡ (if t x then Some (length xs) else None)
  position_last x [] e = position_cons x []
  position_last x (y ∷ xs) e = position_cons y (xs ++ x ∷ []) ∙ go (t y) (position t xs) (position_last x xs) (sym (position_cons y xs) ∙ e)
    where
      next : (b : Bool) → option_map suc (if b then Some (length xs) else None) ≡ (if b then Some (suc (length xs)) else None)
      next true = refl
      next false = refl

      go : (b : Bool) (r : Option ℕ) → (r ≡ None → position t (xs ++ x ∷ []) ≡ (if t x then Some (length xs) else None)) → (if b then Some 0 else option_map suc r) ≡ None
          → (if b then Some 0 else option_map suc (position t (xs ++ x ∷ []))) ≡ (if t x then Some (suc (length xs)) else None)
      go true r h e = cc
      go false (Some j) h e = cc
      go false None h e = ap (option_map suc) (h refl) ∙ next (t x)

module _ {K V : Type 0} (t : K → Bool) where
  -- a key has a place exactly if it has a value
  pub is_some-position : (es : List (K × V)) → is_some (position t (keys_of es)) ≡ is_some (lookup t es)
  is_some-position [] = refl
  is_some-position (x ∷ es) = ap is_some (position_cons t x.0 (keys_of es)) ∙ go (t x.0) (position t (keys_of es)) (is_some-position es)
    where
      go : (b : Bool) (r : Option ℕ) → is_some r ≡ is_some (lookup t es) → is_some (if b then Some 0 else option_map suc r) ≡ is_some (cond b (Some x.1) (lookup t es))
      go true r h = refl
      go false None h = h
      go false (Some n) h = h

  -- the value at a key's place is that of the key
  pub value_at : (d : K × V) (es : List (K × V)) (i : ℕ) → position t (keys_of es) ≡ Some i → lookup t es ≡ Some (get_or es i d).1
  value_at d [] i e = cc
  value_at d (x ∷ es) i e = go (t x.0) (position t (keys_of es)) (value_at d es) (sym (position_cons t x.0 (keys_of es)) ∙ e)
    where
      go : (b : Bool) (r : Option ℕ) → ((j : ℕ) → r ≡ Some j → lookup t es ≡ Some (get_or es j d).1) → (if b then Some 0 else option_map suc r) ≡ Some i → cond b (Some x.1) (lookup t es) ≡ Some (get_or (x ∷ es) i d).1
      go true r h e =
          let z : 0 ≡ i = ap (λ r. unwrap_or r 0) e in
          subst (λ k. Some x.1 ≡ Some (get_or (x ∷ es) k d).1) z refl
      go false None h e = cc
      go false (Some j) h e =
          let z : suc j ≡ i = ap (λ r. unwrap_or r 0) e in
          subst (λ k. lookup t es ≡ Some (get_or (x ∷ es) k d).1) z (h j refl)

  -- to write the value at a key's place is to change the value of the key
  pub set_at : (w : V) (d : K × V) (es : List (K × V)) (i : ℕ) → position t (keys_of es) ≡ Some i → slice_set es i ((get_or es i d).0, w) ≡ set_value t es w
  set_at w d [] i e = cc
  set_at w d (x ∷ es) i e = go (t x.0) (position t (keys_of es)) (set_at w d es) (sym (position_cons t x.0 (keys_of es)) ∙ e)
    where
      go : (b : Bool) (r : Option ℕ) → ((j : ℕ) → r ≡ Some j → slice_set es j ((get_or es j d).0, w) ≡ set_value t es w) → (if b then Some 0 else option_map suc r) ≡ Some i
          → slice_set (x ∷ es) i ((get_or (x ∷ es) i d).0, w) ≡ cond b ((x.0, w) ∷ es) (x ∷ set_value t es w)
      go true r h e =
          let z : 0 ≡ i = ap (λ r. unwrap_or r 0) e in
          subst (λ k. slice_set (x ∷ es) k ((get_or (x ∷ es) k d).0, w) ≡ (x.0, w) ∷ es) z refl
      go false None h e = cc
      go false (Some j) h e =
          let z : suc j ≡ i = ap (λ r. unwrap_or r 0) e in
          subst (λ k. slice_set (x ∷ es) k ((get_or (x ∷ es) k d).0, w) ≡ x ∷ set_value t es w) z (ap (λ l. x ∷ l) (h j refl))

module _ {K : Type 0} {eq : K → K → Bool} (laws : IsEquivalence eq) where
  -- where each key stands, after a new one goes last
  pub placed_last : (get get' : K → Option ℕ) (k : K) (ks : List K) → ((q : K) → get q ≡ position (eq q) ks) → position (eq k) ks ≡ None → ((q : K) → get' q ≡ cond (eq k q) (Some (length ks)) (get q))
      → (q : K) → get' q ≡ position (eq q) (ks ++ k ∷ [])
  placed_last get get' k ks placed new updated q = updated q ∙ go (eq k q) refl
    where
      other : (r : Option ℕ) → position (eq q) ks ≡ r → eq q k ≡ false → r ≡ position (eq q) (ks ++ k ∷ [])
      other None none e = sym (position_last (eq q) k ks none ∙ ap (λ (b : Bool). if b then Some (length ks) else None) e)
      other (Some i) some e = sym (position_first (eq q) ks (k ∷ []) i some)

      go : (b : Bool) → eq k q ≡ b → cond (eq k q) (Some (length ks)) (get q) ≡ position (eq q) (ks ++ k ∷ [])
      go true e =
          let alike : (y : K) → eq q y ≡ eq k y = λ y. sym (laws.congr k q y e) in
          let none : position (eq q) ks ≡ None = (λ j. position (λ y. alike y j) ks) ∙ new in
          ap (λ b. cond b (Some (length ks)) (get q)) e
          ∙ sym (position_last (eq q) k ks none ∙ ap (λ (b : Bool). if b then Some (length ks) else None) (laws.symm q k ∙ e))
      go false e = ap (λ b. cond b (Some (length ks)) (get q)) e ∙ placed q ∙ other (position (eq q) ks) refl (laws.symm q k ∙ e)

  -- no earlier entry has the key of a later one, where the keys are distinct
  pub absent_before : {V : Type 0} (es : List (K × V)) (i : ℕ) (d : K × V) → IsDistinct eq (keys_of es) → i < length es → lookup (eq (get_or es i d).0) (take i es) ≡ None
  unfolding IsDistinct
  absent_before [] i d s h = absurd (omega arith)
  absent_before (x ∷ es) zero d s h = refl
  absent_before {V} (x ∷ es) (suc i) d s h =
      ap (λ b. cond b (Some x.1) (lookup (eq (get_or es i d).0) (take i es))) (laws.symm (get_or es i d).0 x.0 ∙ later es i s.0 (omega arith)) ∙ absent_before es i d s.1 (omega arith)
    where
      later : (fs : List (K × V)) (j : ℕ) → AllByRecursion (λ y. eq x.0 y ≡ false) (keys_of fs) → j < length fs → eq x.0 (get_or fs j d).0 ≡ false
      later [] j h l = absurd (omega arith)
      later (f ∷ fs) zero h l = h.0
      later (f ∷ fs) (suc j) h l = later fs j h.1 (omega arith)
