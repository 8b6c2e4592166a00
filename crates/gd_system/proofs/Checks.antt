-- The first refusal, from what the look-ups say.
use Rattle.std.proofs.Common.{◌≡◌, ℕ, ◌<◌, ◌≤◌, Bool, false, List, length, Option, Some, Ok, Err, sym, ap, ◌∙◌, arith}
use Rattle.std.proofs.lemmas.Bool.Decides.{nat_tests}
use Rattle.std.proofs.lemmas.Bool.{le-leb}
use Rattle.std.specs.Prelude.{if◌then◌else◌, nat_le}
use Rattle.gd_system.specs.Pipeline.{Pipeline, names_of, number_of, same_name}
use Rattle.gd_system.specs.Building.{checked_segment, joined_within, joined, known}
use Rattle.gd_system.specs.Join.{join_of}
use Rattle.gd_system.specs.declared.BuildFault.TheVariants.{Duplicate, TooMany}

pub checked_segment_is : (p value : Pipeline) (name from to : List ℕ) (n : ℕ) (same : Bool) (f t : Option ℕ) (j : Option (ℕ × ℕ)) → p ≡ value
    → known (names_of value) name ≡ false → n ≡ length p.tree → same ≡ same_name from to → f ≡ number_of p.places from → t ≡ number_of p.places to → j ≡ join_of n same f t
    → joined_within n j ≡ checked_segment value name from to
checked_segment_is p value name from to n same f t j v k e s a b r =
    let joins : j ≡ joined p from to =
    r ∙ ap (λ x. join_of x same f t) e ∙ ap (λ x. join_of (length p.tree) x f t) s ∙ ap (λ x. join_of (length p.tree) (same_name from to) x t) a ∙ ap (λ x. join_of (length p.tree) (same_name from to) (number_of p.places from) x) b in
    ap (λ x. joined_within x j) e ∙ ap (joined_within (length p.tree)) joins
    ∙ ap (λ (x : Pipeline). joined_within (length x.tree) (joined x from to)) v
    ∙ sym (ap (λ (c : Bool). if c then Err Duplicate else joined_within (length value.tree) (joined value from to)) k)

pub too_many : (n : ℕ) (p : ℕ × ℕ) → 4095 ≤ n → joined_within n (Some p) ≡ Err TooMany
too_many n p h = ap (λ (b : Bool). if b then Err TooMany else Ok p) (le-leb 4095 n h)

pub few_enough : (n : ℕ) (p : ℕ × ℕ) → n < 4095 → joined_within n (Some p) ≡ Ok p
few_enough n p h = let no : nat_le 4095 n ≡ false = grind (arith, nat_tests) in ap (λ (b : Bool). if b then Err TooMany else Ok p) no
