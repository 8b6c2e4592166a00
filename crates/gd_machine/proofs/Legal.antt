-- What follows for a legal history whose certificates passed the check.
use Rattle.std.proofs.Common.{◌≡◌, ℕ, Bool, true, false, not, List, [], ◌∷◌, Option, None, Some, refl, sym, subst, take, ap}
use Rattle.std.proofs.lemmas.Bool.{false≢true}
use Rattle.gd_rules.specs.Schedule.{IsAllowed}
use Rattle.gd_rules.specs.Spread.{IsBest}
use Rattle.gd_rules.proofs.Better.{prices_show_best}
use Rattle.gd_certificate.specs.Checked.{Certificate}
use Rattle.gd_machine.specs.declared.event.Event.TheVariants.{Publish}
use Rattle.gd_machine.specs.declared.reply.Reply.{Reply}
use Rattle.gd_machine.specs.declared.refusal.Refusal.{Refusal}
use Rattle.gd_machine.specs.Day.{Day}
use Rattle.gd_machine.specs.History.{History}
use Rattle.gd_machine.specs.Asking.{question}
use Rattle.gd_machine.specs.Machine.{first, tests_of, IsLegal, AllPass}
use Rattle.gd_machine.specs.Same.{same_question}
use Rattle.gd_machine.specs.Headline.{PublishesBest, IsAt}
use Rattle.gd_machine.proofs.Same.{same_tells}

-- each test of the list is false
abbrev pub AllFalse : List (Bool × Refusal) → Type 0
AllFalse [] = Unit {0}
AllFalse (test ∷ tests) = (test.0 ≡ false) × AllFalse tests

pub all_false : (tests : List (Bool × Refusal)) → first tests ≡ None → AllFalse tests
all_false [] none = tt
all_false ((true, refusal) ∷ tests) none = absurd (some refusal none)
  where
    is_there : Option Refusal → Bool
    is_there None = false
    is_there (Some r) = true

    some : (r : Refusal) → Some r ≡ None → ⊥
    some r e = false≢true (sym (ap is_there e))
all_false ((false, refusal) ∷ tests) none = (refl, all_false tests none)

pub not_false : (b : Bool) → not b ≡ false → b ≡ true
not_false true e = refl
not_false false e = absurd (false≢true (sym e))

-- the certificate of an accepted publish is for the question of its cycle and round
pub published_fits : (day : Day) (h : History) → IsLegal day h → (k moment : ℕ) (certificate : Certificate) (reply : Reply) → IsAt h k (Publish moment certificate, reply) → certificate.question ≡ question day (take k h)
published_fits day h legal k moment certificate reply at =
    let accepted = legal k (Publish moment certificate, reply) at in
    let tests = all_false (tests_of day (take k h) (Publish moment certificate)) accepted.0 in
    same_tells certificate.question (question day (take k h)) (not_false (same_question certificate.question (question day (take k h))) tests.1.1.0)

pub published_is_best : (day : Day) (h : History) → IsLegal day h → AllPass h → PublishesBest day h
published_is_best day h legal pass k moment certificate reply at =
    let right = pass k (Publish moment certificate, reply) at in
    let fits = published_fits day h legal k moment certificate reply at in
    let best = prices_show_best certificate.question.asked certificate.schedule _ right.0 right.1.priced in
    (fits, subst (λ q. IsAllowed q.asked certificate.schedule) fits right.0, subst (λ q. IsBest q.asked certificate.schedule) fits best)
