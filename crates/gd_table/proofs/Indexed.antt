-- The positions of keys, after each change of the entries.
use Rattle.std.proofs.Common.{◌≡◌, ℕ, Bool, false, cond, List, [], ◌∷◌, ◌++◌, length, Option, Some, None, Bor, refl, sym, ap, subst, ◌∙◌}
use Rattle.std.specs.Prelude.{position, is_some, IsSome}
use Rattle.std.specs.Option.{option_copied}
use Rattle.std.specs.List.{IsDistinct, insert}
use Rattle.std.specs.Cmp.{IsEquivalence}
use Rattle.std.specs.Map.{keys_of, lookup, set_value}
use Rattle.std.specs.HashMap.{HashMap, get}
use Rattle.std.proofs.lemmas.Map.{keys-set_value, lookup-insert, lookup-set_value, none_passes_from_lookup}
use Rattle.std.proofs.lemmas.Map.Made.{is_some-lookup}
use Rattle.std.proofs.lemmas.Map.Keys.{IsDistinct-push}
use Rattle.std.proofs.lemmas.List.{length-map}
use Rattle.gd_table.specs.Inside.{IsIndexed}
use Rattle.gd_table.proofs.Places.{is_some-position, keys_push, placed_last}

none_from : {X : Type 0} (r : Option X) → is_some r ≡ false → r ≡ None
none_from None e = refl
none_from (Some x) e = cc

-- what is found by reference is there
pub some_from : {X Y : Type 0} (r : Option (Bor X)) (s : Option Y) → is_some (option_copied r) ≡ is_some s → IsSome s → IsSome r
some_from None None e h = h
some_from None (Some y) e h = cc
some_from (Some x) s e h = refl

module _ {K V : Type 0} {eq : K → K → Bool} (laws : IsEquivalence eq) where
  at_end : (es : List (K × V)) (e : K × V) → insert es (length es) e ≡ es ++ e ∷ []
  at_end [] e = refl
  at_end (x ∷ es) e = ap (λ l. x ∷ l) (at_end es e)

  -- what each key has after a new one
  pub lookup_last : (es : List (K × V)) (k : K) (v : V) → lookup (eq k) es ≡ None → (q : K) → lookup (eq q) (es ++ (k, v) ∷ []) ≡ cond (eq k q) (Some v) (lookup (eq q) es)
  lookup_last es k v new q = ap (lookup (eq q)) (sym (at_end es (k, v))) ∙ lookup-insert laws k v q es (length es) (none_passes_from_lookup (eq k) es new)

  -- and after the value of a known one is changed
  pub lookup_set : (es : List (K × V)) (k : K) (v : V) → IsSome (lookup (eq k) es) → (q : K) → lookup (eq q) (set_value (eq k) es v) ≡ cond (eq k q) (Some v) (lookup (eq q) es)
  lookup_set es k v known q = lookup-set_value laws (eq k) (laws.congr k) q v es known

module _ {K V S : Type 0} {eq : K → K → Bool} where
  -- a new key goes last
  pub indexed_last : IsEquivalence eq → (es : List (K × V)) (m n : HashMap K ℕ S) (k : K) (v : V) (at : ℕ) → IsIndexed eq es m → lookup (eq k) es ≡ None → at ≡ length es → ((q : K) → get eq n q ≡ cond (eq k q) (Some at) (get eq m q))
      → IsIndexed eq (es ++ (k, v) ∷ []) n
  indexed_last laws es m n k v at i new last updated =
      let none : position (eq k) (keys_of es) ≡ None = none_from _ (is_some-position (eq k) es ∙ ap is_some new) in
      let end : at ≡ length (keys_of es) = last ∙ sym (length-map es (λ e. e.0)) in
      let ends : (q : K) → get eq n q ≡ cond (eq k q) (Some (length (keys_of es))) (get eq m q) = λ q. updated q ∙ ap (λ a. cond (eq k q) (Some a) (get eq m q)) end in
      record {
        distinct = subst (IsDistinct eq) (sym (keys_push es (k, v))) (IsDistinct-push laws (keys_of es) k i.distinct (sym (is_some-lookup (eq k) es) ∙ ap is_some new));
        placed = λ q. placed_last laws (get eq m) (get eq n) k (keys_of es) i.placed none ends q ∙ ap (position (eq q)) (sym (keys_push es (k, v)));
      }

  -- no change of a value moves a key
  pub indexed_set : (t : K → Bool) (es : List (K × V)) (m : HashMap K ℕ S) (w : V) → IsIndexed eq es m → IsIndexed eq (set_value t es w) m
  indexed_set t es m w i =
      let keys = sym (keys-set_value t es w) in
      record { distinct = subst (IsDistinct eq) keys i.distinct; placed = λ q. i.placed q ∙ ap (position (eq q)) keys }
