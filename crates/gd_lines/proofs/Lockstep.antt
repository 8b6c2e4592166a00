-- Lines' keys and states, side by side.
use Rattle.std.proofs.Common.{◌≡◌, ◌≢◌, ℕ, zero, suc, ◌+◌, ◌<◌, ◌≤◌, Bool, true, false, List, [], ◌∷◌, ◌++◌, length, get_or, replicate, refl, sym, ap, ◌∙◌, subst, arith, below_more, length-append, leb}
use Rattle.std.specs.Prelude.{◌==◌, ◌⊎◌}
use Rattle.std.proofs.Common.{inl, inr}
use Rattle.std.specs.List.{IsDistinct}
use Rattle.std.proofs.lemmas.Bool.Decides.{leb_tells}
use Rattle.std.proofs.lemmas.Bool.{eqb-true, eqb-false}
use Rattle.std.proofs.Math.ListN.{get_or-append}
use Rattle.std.proofs.Math.Seq.{get_or-append_seam}
use Rattle.std.proofs.lemmas.Map.Made.{AllPairs-from_IsDistinct}
use Rattle.gd_rules.specs.Lines.{Key, no_key, same_key}
use Rattle.gd_lines.specs.Kept.{no_state, EachLine}
use Rattle.gd_lines.specs.declared.state.State.{State}
use Rattle.gd_lines.proofs.Same.{key_is, key_self}

pub zeros : (n j : ℕ) → let none : ℕ = 0 in get_or (replicate n none) j none ≡ none
zeros zero j = refl
zeros (suc n) zero = refl
zeros (suc n) (suc j) = zeros n j

-- the last of a list
pub last_of : {X : Type 0} (xs : List X) (x d : X) (i : ℕ) → i ≡ length xs → get_or (xs ++ x ∷ []) i d ≡ x
last_of xs x d i e = ap (λ n. get_or (xs ++ x ∷ []) n d) e ∙ get_or-append_seam xs x [] d

module _ (R : Key → State → Type 0) where
  pub each_push : (keys : List Key) (states : List State) (key : Key) (state : State) → length states ≡ length keys → EachLine R keys states → R key state → EachLine R (keys ++ key ∷ []) (states ++ state ∷ [])
  each_push keys states key state sized h new = λ i lt. all i (let long = length-append keys (key ∷ []) in omega (arith, long, lt))
    where
      before : (i : ℕ) → i < length keys → R (get_or (keys ++ key ∷ []) i no_key) (get_or (states ++ state ∷ []) i no_state)
      before i lt = rw (get_or-append keys (key ∷ []) no_key i lt, get_or-append states (state ∷ []) no_state i (omega arith)) (h i lt)

      here : R (get_or (keys ++ key ∷ []) (length keys) no_key) (get_or (states ++ state ∷ []) (length keys) no_state)
      here = rw (last_of keys key no_key (length keys) refl, last_of states state no_state (length keys) (sym sized)) new

      all : (i : ℕ) → i < length keys + 1 → R (get_or (keys ++ key ∷ []) i no_key) (get_or (states ++ state ∷ []) i no_state)
      all = below_more (λ i. R (get_or (keys ++ key ∷ []) i no_key) (get_or (states ++ state ∷ []) i no_state)) (length keys) before here

  pub each_one : (S : Key → State → Type 0) (keys : List Key) (states states' : List State) (line : ℕ) → EachLine R keys states → ((i : ℕ) → i ≢ line → get_or states' i no_state ≡ get_or states i no_state)
      → ((i : ℕ) (state : State) → i < length keys → i ≢ line → R (get_or keys i no_key) state → S (get_or keys i no_key) state) → S (get_or keys line no_key) (get_or states' line no_state) → EachLine S keys states'
  each_one S keys states states' line h others keeps new = λ i lt. go i lt (i == line) refl
    where
      go : (i : ℕ) → i < length keys → (v : Bool) → (i == line) ≡ v → S (get_or keys i no_key) (get_or states' i no_state)
      go i lt true e = subst (λ k. S (get_or keys k no_key) (get_or states' k no_state)) (sym (eqb-true i line e)) new
      go i lt false e =
          let apart : i ≢ line = eqb-false i line e in
          subst (S (get_or keys i no_key)) (sym (others i apart)) (keeps i (get_or states i no_state) lt apart (h i lt))

decided : (a b : Key) → (same_key a b ≡ true → a ≡ b) × (a ≡ b → same_key a b ≡ true)
decided a b = (key_is a b, λ e. subst (λ x. same_key a x ≡ true) e (key_self a))

-- the keys of two lines differ
pub apart : (keys : List Key) (i line : ℕ) → IsDistinct same_key keys → i < length keys → line < length keys → i ≢ line → same_key (get_or keys i no_key) (get_or keys line no_key) ≡ false
apart keys i line h lt within ne = go (same_key (get_or keys i no_key) (get_or keys line no_key)) refl
  where
    by : ((leb line i ≡ true) × (line ≤ i)) ⊎ ((leb line i ≡ false) × (i < line)) → get_or keys i no_key ≢ get_or keys line no_key
    by (inl behind) e = AllPairs-from_IsDistinct decided keys h line i no_key (let lower = behind.1 in omega (arith, lower, ne)) lt (sym e)
    by (inr before) e = AllPairs-from_IsDistinct decided keys h i line no_key before.1 within e

    go : (v : Bool) → same_key (get_or keys i no_key) (get_or keys line no_key) ≡ v → v ≡ false
    go false e = refl
    go true e = absurd (by (leb_tells line i) (key_is _ _ e))
