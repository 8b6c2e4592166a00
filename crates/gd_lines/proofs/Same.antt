-- Two keys are the same exactly where they are equal.
use Rattle.std.proofs.Common.{◌≡◌, ℕ, Bool, true, false, List, get_or, slice_get, Some, refl, sym, ap, ◌∙◌}
use Rattle.std.specs.Prelude.{◌&&◌}
use Rattle.std.specs.Cmp.Lexicographic.{same_text}
use Rattle.std.specs.Cmp.Derive.{both_true}
use Rattle.std.proofs.lemmas.Bool.{false≢true}
use Rattle.std.proofs.lemmas.Cmp.{nat_list_eq_equiv}
use Rattle.std.proofs.lemmas.Option.{get_or_from_slice_get}
use Rattle.gd_rules.specs.Lines.{Key, no_key, same_name, same_key}

both : (a b : Bool) → (a && b) ≡ true → (a ≡ true) × (b ≡ true)
both true b e = (refl, e)
both false b e = absurd (false≢true e)

pub name_is : (a b : List ℕ) → same_name a b ≡ true → a ≡ b
name_is a b e = same_text a b (sym e)

pub name_self : (a : List ℕ) → same_name a a ≡ true
name_self a = nat_list_eq_equiv.refl a

pub key_is : (a b : Key) → same_key a b ≡ true → a ≡ b
key_is a b e =
    let first = both (same_name a.contract b.contract) _ e in
    let second = both (same_name a.package b.package) _ first.1 in
    let third = both (same_name a.origin b.origin) _ second.1 in
    let contract = name_is a.contract b.contract first.0 in
    let inner = name_is a.package b.package second.0 in
    let origin = name_is a.origin b.origin third.0 in
    let dest = name_is a.dest b.dest third.1 in
    λ j. record { contract = contract j; «package» = inner j; origin = origin j; dest = dest j }

pub key_self : (a : Key) → same_key a a ≡ true
key_self a = both_true (name_self a.contract) (both_true (name_self a.package) (both_true (name_self a.origin) (name_self a.dest)))

-- a test turned round
pub key_other : (a b : Key) → same_key a b ≡ false → same_key b a ≡ false
key_other a b e = go (same_key b a) refl
  where
    go : (v : Bool) → same_key b a ≡ v → v ≡ false
    go false f = refl
    go true f = absurd (false≢true (sym e ∙ ap (λ x. same_key x b) (sym (key_is b a f)) ∙ key_self b))

-- the key that stands in a place, if one that is the same does
pub at_key : (keys : List Key) (i : ℕ) (key : Key) → ((x : Key) × (slice_get keys i ≡ Some x) × (same_key key x ≡ true)) → get_or keys i no_key ≡ key
at_key keys i key h = get_or_from_slice_get keys i h.0 no_key h.1 ∙ sym (key_is key h.0 h.2)
