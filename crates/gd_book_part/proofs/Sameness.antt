-- A test that is true exactly where two questions are one is the test of the machine.
use Rattle.std.proofs.Common.{◌≡◌, ◌↔◌, IsTrue, Bool, true, false, refl, sym, ap, ◌∙◌}
use Rattle.std.proofs.lemmas.Bool.{false≢true}
use Rattle.gd_question.specs.Posing.{Posed}
use Rattle.gd_machine.specs.Same.{same_question}
use Rattle.gd_machine.proofs.Same.{same_tells, same_self}

pub test_is : (a b : Posed) (v : Bool) → (IsTrue v ↔ (a ≡ b)) → v ≡ same_question a b
test_is a b v exact = go v (same_question a b) refl exact
  where
    go : (v w : Bool) → same_question a b ≡ w → (IsTrue v ↔ (a ≡ b)) → v ≡ same_question a b
    go true w e (tells, told) = sym (ap (same_question a) (sym (tells refl)) ∙ same_self a)
    go false false e exact = sym e
    go false true e (tells, told) = absurd (false≢true (told (same_tells a b e)))
