-- Which names are known, and under which numbers.
use Rattle.std.proofs.Common.{◌≡◌, Bool, true, false, List, ℕ, Option, Some, None, refl, sym, ◌∙◌}
use Rattle.std.specs.Prelude.{◌||◌, is_some}
use Rattle.std.specs.Map.{keys_of, lookup}
use Rattle.std.proofs.lemmas.Map.Made.{is_some-lookup}
use Rattle.std.proofs.lemmas.List.Folds.{list_any-append}
use Rattle.gd_system.specs.Pipeline.{Pipeline, names_of, same_name}
use Rattle.gd_system.specs.Building.{known}

or_true : (b : Bool) → (b || true) ≡ true
or_true true = refl
or_true false = refl

-- a name is that of a segment, of a point or of a pool
pub known_parts : (p : Pipeline) (name : List ℕ) → known (names_of p) name ≡ ((known p.segments name || known (keys_of p.points) name) || known (keys_of p.pools) name)
known_parts p name = simp list_any-append

pub known_segment : (p : Pipeline) (name : List ℕ) → known p.segments name ≡ true → known (names_of p) name ≡ true
known_segment p name e = rw (known_parts p name, e) refl

pub known_point : (p : Pipeline) (name : List ℕ) → is_some (lookup (same_name name) p.points) ≡ true → known (names_of p) name ≡ true
known_point p name e =
    let k : known (keys_of p.points) name ≡ true = sym (is_some-lookup (same_name name) p.points) ∙ e in
    rw (known_parts p name, k, or_true (known p.segments name)) refl

pub known_pool : (p : Pipeline) (name : List ℕ) → known p.segments name ≡ false → is_some (lookup (same_name name) p.points) ≡ false → known (names_of p) name ≡ is_some (lookup (same_name name) p.pools)
known_pool p name e f =
    let k : known (keys_of p.points) name ≡ false = sym (is_some-lookup (same_name name) p.points) ∙ f in
    rw (known_parts p name, e, k) (sym (is_some-lookup (same_name name) p.pools))

or_parts : (a b c : Bool) → ((a || b) || c) ≡ false → (a ≡ false) × (b ≡ false) × (c ≡ false)
or_parts false false false e = (refl, refl, refl)
or_parts false false true e = cc
or_parts false true c e = cc
or_parts true b c e = cc

absent : {X : Type 0} (r : Option X) → is_some r ≡ false → r ≡ None
absent None e = refl
absent (Some x) e = cc

-- a new name is that of no segment, point or pool
pub new_parts : (p : Pipeline) (name : List ℕ) → known (names_of p) name ≡ false → (known p.segments name ≡ false) × (known (keys_of p.points) name ≡ false) × (known (keys_of p.pools) name ≡ false)
new_parts p name e = or_parts (known p.segments name) (known (keys_of p.points) name) (known (keys_of p.pools) name) (sym (known_parts p name) ∙ e)

pub new_point : (p : Pipeline) (name : List ℕ) → known (names_of p) name ≡ false → lookup (same_name name) p.points ≡ None
new_point p name e = absent (lookup (same_name name) p.points) (is_some-lookup (same_name name) p.points ∙ (new_parts p name e).1)

pub new_pool : (p : Pipeline) (name : List ℕ) → known (names_of p) name ≡ false → lookup (same_name name) p.pools ≡ None
new_pool p name e = absent (lookup (same_name name) p.pools) (is_some-lookup (same_name name) p.pools ∙ (new_parts p name e).2)
