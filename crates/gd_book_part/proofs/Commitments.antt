-- What a contract's lines are nominated with one nomination more: the line's former quantity gives way.
use Rattle.std.proofs.Common.{◌≡◌, ℕ, ◌+◌, ◌-◌, ◌≤◌, Bool, true, false, cond, List, [], ◌∷◌, ◌++◌, length, All, nat_le, Some, None, ◌<◌, refl, sym, ap, ◌∙◌, arith}
use Rattle.std.specs.Prelude.{◌||◌, fold, is_some, not, nat_lt}
use Rattle.std.specs.List.{list_any, IsDistinct, position_or_len}
use Rattle.std.proofs.lemmas.List.Sums.{prefix_len-le-length}
use Rattle.std.proofs.lemmas.List.Quantifiers.{position-Some}
use Rattle.gd_system.proofs.Positions.{is_some-position}
use Rattle.gd_lines.specs.Numbering.{nomination}
use Rattle.std.specs.Cmp.{IsEquivalence}
use Rattle.std.proofs.lemmas.Bool.{le-leb, ltb-false, false≢true}
use Rattle.std.proofs.lemmas.Map.Keys.{IsDistinct-push}
use Rattle.std.proofs.lemmas.List.Elements.{All-filter}
use Rattle.std.proofs.lemmas.List.Folds.{list_any-append}
use Rattle.gd_rules.specs.Lines.{Key, Nomination, same_key, same_name, entered, lines_of, of_line, last_quantity, committed, find, line_key, no_key}
use Rattle.gd_rules.specs.Lists.{nominated}
use Rattle.gd_lines.proofs.Same.{key_is, key_self, key_other, name_self}
use Rattle.gd_lines.proofs.NextNomination as pushed
use Rattle.gd_lines.proofs.Sums.{total, part, total_changed, total_entered}

swapped : (a b : Key) → same_key a b ≡ same_key b a
swapped a b = go (same_key a b) refl
  where
    go : (v : Bool) → same_key a b ≡ v → v ≡ same_key b a
    go true e = let same = key_is a b e in sym (ap (λ x. same_key x a) (sym same) ∙ key_self a)
    go false e = sym (key_other a b e)

keys_alike : IsEquivalence same_key
keys_alike = record {
  refl = key_self;
  symm = λ a b. swapped a b;
  congr = λ a b c e. ap (λ x. same_key x c) (key_is a b e);
}

distinct_entered : (keys : List Key) (key : Key) → IsDistinct same_key keys → IsDistinct same_key (entered keys key)
distinct_entered keys key distinct = go (list_any (same_key key) keys) refl
  where
    go : (v : Bool) → list_any (same_key key) keys ≡ v → IsDistinct same_key (cond v keys (keys ++ key ∷ []))
    go true e = distinct
    go false e = IsDistinct-push keys_alike keys key distinct e

distinct_folded : (ns : List Nomination) (keys : List Key) → IsDistinct same_key keys → IsDistinct same_key (fold (λ ks n. entered ks n.key) keys ns)
distinct_folded [] keys distinct = distinct
distinct_folded (n ∷ ns) keys distinct = distinct_folded ns (entered keys n.key) (distinct_entered keys n.key distinct)

pub lines_distinct : (ns : List Nomination) → IsDistinct same_key (lines_of ns)
unfolding IsDistinct
lines_distinct ns = distinct_folded ns [] tt

there : (keys : List Key) (key : Key) → list_any (same_key key) (entered keys key) ≡ true
there keys key = go (list_any (same_key key) keys) refl
  where
    last : (v : Bool) → v ≡ true → (list_any (same_key key) keys || (v || false)) ≡ true
    last true e = or_true (list_any (same_key key) keys)
      where
        or_true : (b : Bool) → (b || true) ≡ true
        or_true true = refl
        or_true false = refl
    last false e = absurd (false≢true e)

    go : (v : Bool) → list_any (same_key key) keys ≡ v → list_any (same_key key) (cond v keys (keys ++ key ∷ [])) ≡ true
    go true e = e
    go false e = list_any-append (same_key key) keys (key ∷ []) ∙ last (same_key key key) (key_self key)

pub committed_more : (ns : List Nomination) (n : Nomination) → committed (ns ++ n ∷ []) n.key.contract + last_quantity (of_line n.key ns) ≡ committed ns n.key.contract + n.quantity
committed_more ns n =
    let p : Key → Bool = λ key. same_name key.contract n.key.contract in
    let f : Key → ℕ = λ key. last_quantity (of_line key ns) in
    let g : Key → ℕ = λ key. last_quantity (of_line key (ns ++ n ∷ [])) in
    let agree : (y : Key) → same_key n.key y ≡ false → f y ≡ g y = λ y e. sym (ap last_quantity (pushed.of_line_no y ns n (key_other n.key y e))) in
    let keys = entered (lines_of ns) n.key in
    let change = total_changed p f g n.key agree keys (distinct_entered (lines_of ns) n.key (lines_distinct ns)) (there (lines_of ns) n.key) in
    let own : p n.key ≡ true = name_self n.key.contract in
    let old : total p f keys ≡ committed ns n.key.contract = total_entered p f (lines_of ns) n.key (λ e. ap last_quantity (pushed.unknown n.key ns e)) in
    let new : committed (ns ++ n ∷ []) n.key.contract ≡ total p g keys = ap (total p g) (pushed.lines_push ns n) in
    let before : part p f n.key ≡ f n.key = ap (λ b. cond b (f n.key) 0) own in
    let last : g n.key ≡ n.quantity = ap last_quantity (pushed.of_line_yes n.key ns n (key_self n.key)) ∙ pushed.last_push (of_line n.key ns) n in
    let after : part p g n.key ≡ n.quantity = ap (λ b. cond b (g n.key) 0) own ∙ last in
    omega (arith, change, old, new, before, after)

-- what is nominated for the last cycle is what is nominated last
pub nominated_last : (ns : List Nomination) (key : Key) → All (λ n. (1 ≤ n.cycle) × (n.cycle ≤ 5)) ns → nominated ns key 5 ≡ last_quantity (of_line key ns)
nominated_last ns key all =
    ap last_quantity (pushed.filter_all (λ n. nat_le n.cycle 5) (of_line key ns) (λ k d lt. le-leb _ 5 (All-filter (λ n. same_key key n.key) (λ n. (1 ≤ n.cycle) × (n.cycle ≤ 5)) ns all k d lt).1))

-- ---- a line by its key

pub found_key : (ns : List Nomination) (key : Key) (line : ℕ) → find ns key ≡ Some line → (line < length (lines_of ns)) × (line_key ns line ≡ key)
found_key ns key line e =
    let found = position-Some (same_key key) (lines_of ns) line no_key e in
    (found.0, sym (key_is key (line_key ns line) found.1))

pub absent_key : (ns : List Nomination) (key : Key) → find ns key ≡ None → last_quantity (of_line key ns) ≡ 0
absent_key ns key e = ap last_quantity (pushed.unknown key ns (sym (is_some-position (same_key key) (lines_of ns)) ∙ ap is_some e))

pub last_found : (ns : List Nomination) (key : Key) (line : ℕ) → All (λ n. (1 ≤ n.cycle) × (n.cycle ≤ 5)) ns → find ns key ≡ Some line → nominated ns (line_key ns line) 5 ≡ last_quantity (of_line key ns)
last_found ns key line all e = ap (λ k. nominated ns k 5) (found_key ns key line e).1 ∙ nominated_last ns key all

pub committed_then : (ns : List Nomination) (key : Key) (quantity : ℕ) → last_quantity (of_line key ns) ≤ committed ns key.contract → committed ns key.contract - last_quantity (of_line key ns) + quantity ≡ committed (ns ++ nomination key 0 0 quantity ∷ []) key.contract
committed_then ns key quantity within = let more = committed_more ns (nomination key 0 0 quantity) in omega (arith, more, within)

-- a new key gets the next number
pub absent_number : (ns : List Nomination) (key : Key) → find ns key ≡ None → position_or_len (same_key key) (lines_of ns) ≡ length (lines_of ns)
absent_number ns key e =
    let n : ℕ = position_or_len (same_key key) (lines_of ns) in
    let most : n ≤ length (lines_of ns) = prefix_len-le-length (λ x. not (same_key key x)) (lines_of ns) in
    go (nat_lt n (length (lines_of ns))) refl most e
  where
    go : (v : Bool) → nat_lt (position_or_len (same_key key) (lines_of ns)) (length (lines_of ns)) ≡ v → position_or_len (same_key key) (lines_of ns) ≤ length (lines_of ns)
        → cond v (Some (position_or_len (same_key key) (lines_of ns))) None ≡ None → position_or_len (same_key key) (lines_of ns) ≡ length (lines_of ns)
    go true b most none = cc
    go false b most none = let above = ltb-false (position_or_len (same_key key) (lines_of ns)) (length (lines_of ns)) b in omega (arith, most, above)
