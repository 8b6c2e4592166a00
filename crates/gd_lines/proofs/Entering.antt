-- Where a key stands that may be new.
use Rattle.std.proofs.Common.{◌≡◌, ℕ, ◌<◌, ◌≤◌, Bool, true, false, cond, not, List, [], ◌∷◌, ◌++◌, length, get_or, Some, None, Ok, Err, refl, sym, ap, arith}
use Rattle.std.specs.Prelude.{if◌then◌else◌, position, nat_le, nat_lt, unwrap_or}
use Rattle.std.specs.List.{position_or_len, list_any}
use Rattle.std.proofs.lemmas.Bool.{le-leb}
use Rattle.std.proofs.lemmas.Bool.Decides.{nat_tests}
use Rattle.std.proofs.lemmas.List.Quantifiers.{position-Some}
use Rattle.std.proofs.lemmas.List.Sums.{prefix_len-le-length}
use Rattle.gd_rules.specs.Lines.{Key, no_key, same_key, entered}
use Rattle.gd_lines.specs.Numbering.{number_within}
use Rattle.gd_lines.specs.declared.fault.LinesFault.TheVariants.{TooManyLines}
use Rattle.gd_lines.proofs.Same.{key_is}

-- the place of a key that is there
pub there_at : (key : Key) (keys : List Key) (line : ℕ) → position (same_key key) keys ≡ Some line → position_or_len (same_key key) keys ≡ line
there_at key keys line e = go (nat_lt (position_or_len (same_key key) keys) (length keys)) e
  where
    go : (b : Bool) → cond b (Some (position_or_len (same_key key) keys)) None ≡ Some line → position_or_len (same_key key) keys ≡ line
    go true e = ap (λ r. unwrap_or r 0) e
    go false e = cc

pub there_is : (key : Key) (keys : List Key) (line : ℕ) → position (same_key key) keys ≡ Some line → get_or keys line no_key ≡ key
there_is key keys line e = sym (key_is key _ (position-Some (same_key key) keys line no_key e).1)

pub entered_there : (key : Key) (keys : List Key) → list_any (same_key key) keys ≡ true → entered keys key ≡ keys
entered_there key keys e = ap (λ (b : Bool). if b then keys else keys ++ key ∷ []) e

pub entered_last : (key : Key) (keys : List Key) → list_any (same_key key) keys ≡ false → entered keys key ≡ keys ++ key ∷ []
entered_last key keys e = ap (λ (b : Bool). if b then keys else keys ++ key ∷ []) e

-- the place of one that is new
pub last_at : (key : Key) (keys : List Key) → position (same_key key) keys ≡ None → position_or_len (same_key key) keys ≡ length keys
last_at key keys e = go (nat_lt (position_or_len (same_key key) keys) (length keys)) refl e
  where
    go : (b : Bool) → nat_lt (position_or_len (same_key key) keys) (length keys) ≡ b → cond b (Some (position_or_len (same_key key) keys)) None ≡ None → position_or_len (same_key key) keys ≡ length keys
    go true f e = cc
    go false f e = let most = prefix_len-le-length (λ x. not (same_key key x)) keys in grind (arith, nat_tests, f, most)

-- what a new key is told
pub too_many : (count : ℕ) → 20000 ≤ count → number_within count None ≡ Err TooManyLines
too_many count h = ap (λ (full : Bool). if full then Err TooManyLines else Ok count) (le-leb 20000 count h)

pub next_number : (count : ℕ) → count < 20000 → number_within count None ≡ Ok count
next_number count h = let no : nat_le 20000 count ≡ false = grind (arith, nat_tests) in ap (λ (full : Bool). if full then Err TooManyLines else Ok count) no
