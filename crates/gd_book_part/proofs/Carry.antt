-- Keys that are carried over twice, from the map that keeps what is carried over.
use Rattle.std.proofs.Common.{◌≡◌, ℕ, ◌<◌, Bool, true, false, cond, List, [], ◌∷◌, ◌++◌, zero, suc, ◌+◌, ◌||◌, length, map, take, get_or, Option, Some, None, refl, sym, ap, subst, ◌∙◌, arith}
use Rattle.std.specs.Prelude.{is_some}
use Rattle.std.specs.List.{list_any, IsDistinct}
use Rattle.std.specs.Map.{keys_of, lookup}
use Rattle.std.proofs.lemmas.List.{take_more}
use Rattle.gd_rules.specs.Lines.{Key, same_key, no_key}
use Rattle.gd_book_part.specs.Names.{IsFirstDuplicate}

-- a key is there where the look-up finds it
pub some_any : (key : Key) (es : List (Key × ℕ)) → list_any (same_key key) (keys_of es) ≡ is_some (lookup (same_key key) es)
some_any key [] = refl
some_any key (e ∷ es) = go (same_key key e.0) (some_any key es)
  where
    go : (v : Bool) → list_any (same_key key) (keys_of es) ≡ is_some (lookup (same_key key) es) → (v || list_any (same_key key) (keys_of es)) ≡ is_some (cond v (Some e.1) (lookup (same_key key) es))
    go true h = refl
    go false h = h

take_keys : (n : ℕ) (es : List (Key × ℕ)) → take n (keys_of es) ≡ keys_of (take n es)
take_keys zero es = refl
take_keys (suc n) [] = refl
take_keys (suc n) (e ∷ es) = ap (λ l. e.0 ∷ l) (take_keys n es)

key_at : (n : ℕ) (es : List (Key × ℕ)) (e : Key × ℕ) → n < length es → e ≡ get_or es n e → get_or (keys_of es) n no_key ≡ e.0
key_at n [] e h i = absurd (omega arith)
key_at zero (x ∷ es) e h i = ap (λ (y : Key × ℕ). y.0) (sym i)
key_at (suc n) (x ∷ es) e h i = key_at n es e (omega arith) i

length_keys : (es : List (Key × ℕ)) → length (keys_of es) ≡ length es
length_keys [] = refl
length_keys (e ∷ es) = ap suc (length_keys es)

-- the first position whose key is among those before it
pub repeat_is : (carry es : List (Key × ℕ)) (n : ℕ) (e : Key × ℕ) → n < length carry → e ≡ get_or carry n e → es ≡ take n carry → IsDistinct same_key (keys_of es) → is_some (lookup (same_key e.0) es) ≡ true
    → IsFirstDuplicate (map (λ c. c.0) carry) n
repeat_is carry es n e within at taken distinct there =
    let keys : take n (keys_of carry) ≡ keys_of es = take_keys n carry ∙ ap keys_of (sym taken) in
    let counted = length_keys carry in (
      omega arith,
      subst (λ (l : List Key). list_any (same_key (get_or (keys_of carry) n no_key)) l ≡ true) (sym keys)
          (ap (λ (k : Key). list_any (same_key k) (keys_of es)) (key_at n carry e within at) ∙ some_any e.0 es ∙ there),
      subst (IsDistinct same_key) (sym keys) distinct,
    )

-- the key that is not found is new
pub absent_lookup : {X : Type 0} (r : Option X) → is_some r ≡ false → r ≡ None
absent_lookup None e = refl
absent_lookup (Some x) e = cc

-- one entry more
pub carried_more : (carry es new : List (Key × ℕ)) (n : ℕ) (e : Key × ℕ) → n < length carry → e ≡ get_or carry n e → es ≡ take n carry → new ≡ es ++ e ∷ [] → new ≡ take (n + 1) carry
carried_more carry es new n e within at taken last =
    last ∙ ap (λ (l : List (Key × ℕ)). l ++ e ∷ []) taken ∙ ap (λ (x : Key × ℕ). take n carry ++ x ∷ []) at ∙ sym (take_more carry n e within)
