-- The keys and states of the lines once the line of a nomination is entered, if it is new.
use Rattle.std.proofs.Common.{◌≡◌, ◌≢◌, ℕ, ◌<◌, ◌≤◌, Bool, true, false, cond, List, [], ◌∷◌, ◌++◌, length, get_or, take, refl, sym, ap, ◌∙◌, subst, arith, length-append, inl, inr}
use Rattle.std.specs.Prelude.{◌==◌, ◌⊎◌, if◌then◌else◌}
use Rattle.std.specs.List.{list_any}
use Rattle.std.proofs.lemmas.Bool.{eqb-true, eqb-false, false≢true}
use Rattle.std.proofs.lemmas.List.{take-append-le}
use Rattle.std.proofs.lemmas.List.Folds.{list_any_at}
use Rattle.std.proofs.Math.ListN.{get_or-append}
use Rattle.gd_rules.specs.Lines.{Key, Nomination, no_key, same_key, entered}
use Rattle.gd_lines.specs.Kept.{blank, EachLine}
use Rattle.gd_lines.specs.declared.state.State.{State}
use Rattle.gd_lines.proofs.Same.{key_self}
use Rattle.gd_lines.proofs.Lockstep.{each_push}

module _ (ns : List Nomination) (keys : List Key) (states : List State) (n : Nomination) (line : ℕ) (keys' : List Key) (states' : List State) (sized : length states ≡ length keys) (entered_is : keys' ≡ entered keys n.key) (at : get_or keys' line no_key ≡ n.key)
    (within : line < length keys') (states_are : states' ≡ (if length states == line then states ++ blank n.class ∷ [] else states)) where
  -- a line that is there, or a new one
  abbrev Known : Type 0
  Known = (list_any (same_key n.key) keys ≡ true) × (keys' ≡ keys) × (states' ≡ states)

  abbrev New : Type 0
  New = (list_any (same_key n.key) keys ≡ false) × (keys' ≡ keys ++ n.key ∷ []) × (states' ≡ states ++ blank n.class ∷ [])

  known : list_any (same_key n.key) keys ≡ true → Known
  known e =
      let same : keys' ≡ keys = entered_is ∙ ap (λ b. cond b keys (keys ++ n.key ∷ [])) e in
      (e, same, states_are ∙ go (length states == line) refl (let long = ap length same in let ne : length states ≢ line = omega (arith, long, within, sized) in ne))
    where
      go : (v : Bool) → (length states == line) ≡ v → length states ≢ line → cond v (states ++ blank n.class ∷ []) states ≡ states
      go true e ne = absurd (ne (eqb-true (length states) line e))
      go false e ne = refl

  new : list_any (same_key n.key) keys ≡ false → New
  new e =
      let longer : keys' ≡ keys ++ n.key ∷ [] = entered_is ∙ ap (λ b. cond b keys (keys ++ n.key ∷ [])) e in
      (e, longer, states_are ∙ go longer (length states == line) refl)
    where
      behind : keys' ≡ keys ++ n.key ∷ [] → line < length keys → ⊥
      behind longer lt =
          let here : get_or keys line no_key ≡ n.key = sym (get_or-append keys (n.key ∷ []) no_key line lt) ∙ ap (λ l. get_or l line no_key) (sym longer) ∙ at in
          false≢true (sym e ∙ list_any_at (same_key n.key) keys line no_key lt (ap (same_key n.key) here ∙ key_self n.key))

      go : keys' ≡ keys ++ n.key ∷ [] → (v : Bool) → (length states == line) ≡ v → cond v (states ++ blank n.class ∷ []) states ≡ states ++ blank n.class ∷ []
      go longer true f = refl
      go longer false f =
          let ne : length states ≢ line = eqb-false (length states) line f in
          let long = ap length longer ∙ length-append keys (n.key ∷ []) in
          let not_behind = behind longer in
          absurd (not_behind (omega (arith, long, within, sized, ne)))

  pub stage : Known ⊎ New
  stage = go (list_any (same_key n.key) keys) refl
    where
      go : (v : Bool) → list_any (same_key n.key) keys ≡ v → Known ⊎ New
      go true e = inl (known e)
      go false e = inr (new e)

  pub sized_then : length states' ≡ length keys'
  sized_then = go stage
    where
      go : Known ⊎ New → length states' ≡ length keys'
      go (inl h) = let a = ap length h.1 in let b = ap length h.2 in omega (arith, a, b, sized)
      go (inr h) =
          let a = ap length h.1 ∙ length-append keys (n.key ∷ []) in
          let b = ap length h.2 ∙ length-append states (blank n.class ∷ []) in
          omega (arith, a, b, sized)

  pub longer : length keys ≤ length keys'
  longer = go stage
    where
      go : Known ⊎ New → length keys ≤ length keys'
      go (inl h) = let a = ap length h.1 in omega (arith, a)
      go (inr h) = let a = ap length h.1 ∙ length-append keys (n.key ∷ []) in omega (arith, a)

  pub keys_stay : (i : ℕ) → i < length keys → get_or keys' i no_key ≡ get_or keys i no_key
  keys_stay i lt = go stage
    where
      go : Known ⊎ New → get_or keys' i no_key ≡ get_or keys i no_key
      go (inl h) = ap (λ l. get_or l i no_key) h.1
      go (inr h) = ap (λ l. get_or l i no_key) h.1 ∙ get_or-append keys (n.key ∷ []) no_key i lt

  pub take_stays : (m : ℕ) → m ≤ length keys → take m keys' ≡ take m keys
  take_stays m le = go stage
    where
      go : Known ⊎ New → take m keys' ≡ take m keys
      go (inl h) = ap (take m) h.1
      go (inr h) = ap (take m) h.1 ∙ take-append-le m keys (n.key ∷ []) le

  pub each_then : (R : Key → State → Type 0) → EachLine R keys states → (list_any (same_key n.key) keys ≡ false → R n.key (blank n.class)) → EachLine R keys' states'
  each_then R h fresh = go stage
    where
      go : Known ⊎ New → EachLine R keys' states'
      go (inl k) = subst (λ l. EachLine R l states') (sym k.1) (subst (EachLine R keys) (sym k.2) h)
      go (inr k) = subst (λ l. EachLine R l states') (sym k.1) (subst (EachLine R (keys ++ n.key ∷ [])) (sym k.2) (each_push R keys states n.key (blank n.class) sized h (fresh k.0)))

  pub there : list_any (same_key n.key) keys' ≡ true
  there = list_any_at (same_key n.key) keys' line no_key within (ap (same_key n.key) at ∙ key_self n.key)
