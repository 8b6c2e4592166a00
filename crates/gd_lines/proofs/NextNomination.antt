-- What one more nomination does to the lists that are told by all of them.
use Rattle.std.proofs.Common.{◌≡◌, ℕ, suc, Bool, true, false, cond, List, [], ◌∷◌, ◌++◌, filter, map, refl, sym, ap, ◌∙◌, arith}
use Rattle.std.specs.Prelude.{◌||◌, nat_le, fold, All}
use Rattle.std.specs.List.{list_any}
use Rattle.std.proofs.lemmas.Bool.{false≢true}
use Rattle.std.proofs.lemmas.List.{append-nil}
use Rattle.std.proofs.lemmas.List.Elements.{filter-append}
use Rattle.std.proofs.lemmas.List.Folds.{list_any-append}
use Rattle.std.proofs.lemmas.List.Sums.{fold-append}
use Rattle.gd_rules.specs.Lines.{Key, Nomination, same_key, entered, lines_of, of_line, until, last_quantity}
use Rattle.gd_rules.specs.Lists.{nominated}
use Rattle.gd_lines.specs.Kept.{IsFirstClass}
use Rattle.gd_lines.proofs.Same.{key_is}

pub filter_yes : {X : Type 0} (p : X → Bool) (xs : List X) (x : X) → p x ≡ true → filter p (xs ++ x ∷ []) ≡ filter p xs ++ x ∷ []
filter_yes p xs x e = filter-append p xs (x ∷ []) ∙ ap (λ b. filter p xs ++ cond b (x ∷ []) []) e

pub filter_no : {X : Type 0} (p : X → Bool) (xs : List X) (x : X) → p x ≡ false → filter p (xs ++ x ∷ []) ≡ filter p xs
filter_no p xs x e = filter-append p xs (x ∷ []) ∙ ap (λ b. filter p xs ++ cond b (x ∷ []) []) e ∙ append-nil (filter p xs)

pub either : (a b : Bool) → (a || b) ≡ false → (a ≡ false) × (b ≡ false)
either true b e = absurd (false≢true (sym e))
either false b e = (refl, e)

pub filter_none : {X : Type 0} (p : X → Bool) (xs : List X) → list_any p xs ≡ false → filter p xs ≡ []
filter_none p [] e = refl
filter_none p (x ∷ xs) e = let h = either (p x) (list_any p xs) e in ap (λ b. cond b (x ∷ filter p xs) (filter p xs)) h.0 ∙ filter_none p xs h.1

pub tail : {X : Type 0} (P : X → Type 0) (x : X) (xs : List X) → All P (x ∷ xs) → All P xs
tail P x xs h = λ k d lt. h (suc k) d (omega arith)

pub filter_all : {X : Type 0} (p : X → Bool) (xs : List X) → All (λ x. p x ≡ true) xs → filter p xs ≡ xs
filter_all p [] h = refl
filter_all p (x ∷ xs) h = ap (λ b. cond b (x ∷ filter p xs) (filter p xs)) (h 0 x (omega arith)) ∙ ap (λ l. x ∷ l) (filter_all p xs (tail (λ x. p x ≡ true) x xs h))

pub map_same : {X Y : Type 0} (f g : X → Y) (xs : List X) → All (λ x. f x ≡ g x) xs → map f xs ≡ map g xs
map_same f g [] h = refl
map_same f g (x ∷ xs) h = ap (λ y. y ∷ map f xs) (h 0 x (omega arith)) ∙ ap (λ l. g x ∷ l) (map_same f g xs (tail (λ x. f x ≡ g x) x xs h))

-- the last one counts
pub last_push : (ns : List Nomination) (n : Nomination) → last_quantity (ns ++ n ∷ []) ≡ n.quantity
last_push ns n = fold-append (λ former n. n.quantity) 0 ns (n ∷ [])

pub lines_push : (ns : List Nomination) (n : Nomination) → lines_of (ns ++ n ∷ []) ≡ entered (lines_of ns) n.key
lines_push ns n = fold-append (λ keys n. entered keys n.key) [] ns (n ∷ [])

module _ (key : Key) (ns : List Nomination) (n : Nomination) where
  pub of_line_yes : same_key key n.key ≡ true → of_line key (ns ++ n ∷ []) ≡ of_line key ns ++ n ∷ []
  of_line_yes e = filter_yes (λ n. same_key key n.key) ns n e

  pub of_line_no : same_key key n.key ≡ false → of_line key (ns ++ n ∷ []) ≡ of_line key ns
  of_line_no e = filter_no (λ n. same_key key n.key) ns n e

  pub nominated_other : (c : ℕ) → same_key key n.key ≡ false → nominated (ns ++ n ∷ []) key c ≡ nominated ns key c
  nominated_other c e = ap (λ l. last_quantity (until c l)) (of_line_no e)

  pub nominated_before : (c : ℕ) → same_key key n.key ≡ true → nat_le n.cycle c ≡ false → nominated (ns ++ n ∷ []) key c ≡ nominated ns key c
  nominated_before c e late = ap (λ l. last_quantity (until c l)) (of_line_yes e) ∙ ap last_quantity (filter_no (λ n. nat_le n.cycle c) (of_line key ns) n late)

  pub nominated_now : (c : ℕ) → same_key key n.key ≡ true → nat_le n.cycle c ≡ true → nominated (ns ++ n ∷ []) key c ≡ n.quantity
  nominated_now c e early =
      ap (λ l. last_quantity (until c l)) (of_line_yes e) ∙ ap last_quantity (filter_yes (λ n. nat_le n.cycle c) (of_line key ns) n early)
      ∙ last_push (until c (of_line key ns)) n

-- more nominations leave a line's first
pub first_stays : (class : ℕ) (ns more : List Nomination) → IsFirstClass class ns → IsFirstClass class (ns ++ more)
first_stays class [] more h = absurd h
first_stays class (n ∷ ns) more h = h

-- which keys are entered
same_any : (a b : Key) (keys : List Key) → same_key a b ≡ true → list_any (same_key a) keys ≡ list_any (same_key b) keys
same_any a b keys e = ap (λ x. list_any (same_key x) keys) (key_is a b e)

absent_before : (key other : Key) (keys : List Key) → list_any (same_key key) (entered keys other) ≡ false → (list_any (same_key key) keys ≡ false) × (same_key key other ≡ false)
absent_before key other keys e = go (list_any (same_key other) keys) refl e
  where
    there : (v : Bool) → list_any (same_key other) keys ≡ true → list_any (same_key key) keys ≡ false → same_key key other ≡ v → v ≡ false
    there false known none f = refl
    there true known none f = absurd (false≢true (sym none ∙ same_any key other keys f ∙ known))

    go : (v : Bool) → list_any (same_key other) keys ≡ v → list_any (same_key key) (cond v keys (keys ++ other ∷ [])) ≡ false → (list_any (same_key key) keys ≡ false) × (same_key key other ≡ false)
    go true known none = (none, there (same_key key other) known none refl)
    go false new none =
        let parts = either (list_any (same_key key) keys) (same_key key other || false) (sym (list_any-append (same_key key) keys (other ∷ [])) ∙ none) in
        (parts.0, (either (same_key key other) false parts.1).0)

absent_from : (key : Key) (keys : List Key) (ns : List Nomination) → list_any (same_key key) (fold (λ keys n. entered keys n.key) keys ns) ≡ false → (list_any (same_key key) keys ≡ false) × (list_any (λ n. same_key key n.key) ns ≡ false)
absent_from key keys [] e = (e, refl)
absent_from key keys (n ∷ ns) e =
    let rest = absent_from key (entered keys n.key) ns e in
    let here = absent_before key n.key keys rest.0 in
    (here.0, ap (λ b. b || list_any (λ n. same_key key n.key) ns) here.1 ∙ rest.1)

-- a key that is no line's has no nomination
pub unknown : (key : Key) (ns : List Nomination) → list_any (same_key key) (lines_of ns) ≡ false → of_line key ns ≡ []
unknown key ns e = filter_none (λ n. same_key key n.key) ns (absent_from key [] ns e).1

pub unknown_nominated : (key : Key) (ns : List Nomination) (c : ℕ) → list_any (same_key key) (lines_of ns) ≡ false → nominated ns key c ≡ 0
unknown_nominated key ns c e = ap (λ l. last_quantity (until c l)) (unknown key ns e)
