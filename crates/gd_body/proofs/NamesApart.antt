-- Names of which no two are the same: each is found where it stands.
use Rattle.std.proofs.Common.{◌≡◌, ◌≢◌, ℕ, ◌<◌, ◌≤◌, Bool, true, false, nat_lt, List, [], length, get_or, take, Some, None, refl, sym, ap, ◌∙◌, arith}
use Rattle.std.specs.Prelude.{is_some}
use Rattle.std.specs.List.{position_or_len}
use Rattle.std.specs.Cmp.Lexicographic.{bytes_decides}
use Rattle.std.proofs.lemmas.List.{get_or-take, length-take-le}
use Rattle.std.proofs.lemmas.List.Sums.{position_or_len_is}
use Rattle.std.proofs.lemmas.Bool.Decides.{nat_tests}
use Rattle.gd_system.specs.Pipeline.{same_name, number_of}
use Rattle.gd_system.specs.Building.{known}
use Rattle.gd_system.proofs.Positions.{is_some-position}
use Rattle.gd_body.specs.Publishable.{AreApart}

same_is : (a : List ℕ) → same_name a a ≡ true
same_is a = (bytes_decides a a).1 refl

pub differ : (a b : List ℕ) → a ≢ b → same_name a b ≡ false
differ a b other = go (same_name a b) refl
  where
    go : (v : Bool) → same_name a b ≡ v → same_name a b ≡ false
    go true e = absurd (other ((bytes_decides a b).0 e))
    go false e = e

module _ (names : List (List ℕ)) (apart : AreApart names) where
  -- the names before one are others
  before : (k j : ℕ) → k < j → j < length names → same_name (get_or names j []) (get_or names k []) ≡ false
  before k j low within = differ _ _ (λ (e : get_or names j [] ≡ get_or names k []). apart k j [] low within (sym e))

  -- a name's number among the first of the names
  pub number_found : (k j : ℕ) → j < k → k ≤ length names → number_of (take k names) (get_or names j []) ≡ Some j
  number_found k j low within =
      let long : length (take k names) ≡ k = length-take-le k names within in
      let at : position_or_len (same_name (get_or names j [])) (take k names) ≡ j =
      position_or_len_is (same_name (get_or names j [])) (take k names) j [] (omega arith)
      (λ i less. ap (same_name (get_or names j [])) (get_or-take k names i [] (omega arith)) ∙ before i j less (omega arith))
      (λ _. ap (same_name (get_or names j [])) (get_or-take k names j [] low) ∙ same_is (get_or names j [])) in
      let yes : nat_lt j k ≡ true = grind (arith, nat_tests) in
      rw (at, long, yes) refl

  pub number_new : (k : ℕ) → k < length names → number_of (take k names) (get_or names k []) ≡ None
  number_new k within =
      let long : length (take k names) ≡ k = length-take-le k names (omega arith) in
      let at : position_or_len (same_name (get_or names k [])) (take k names) ≡ k =
      position_or_len_is (same_name (get_or names k [])) (take k names) k [] (omega arith)
      (λ i less. ap (same_name (get_or names k [])) (get_or-take k names i [] less) ∙ before i k less within)
      (λ low. absurd (omega (arith, low))) in
      let no : nat_lt k k ≡ false = grind (arith, nat_tests) in
      rw (at, long, no) refl

  pub name_known : (k j : ℕ) → j < k → k ≤ length names → known (take k names) (get_or names j []) ≡ true
  name_known k j low within = sym (is_some-position (same_name (get_or names j [])) (take k names)) ∙ ap is_some (number_found k j low within)

  pub name_new : (k : ℕ) → k < length names → known (take k names) (get_or names k []) ≡ false
  name_new k within = sym (is_some-position (same_name (get_or names k [])) (take k names)) ∙ ap is_some (number_new k within)
