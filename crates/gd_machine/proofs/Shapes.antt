-- The cut of an accepted declare is one of the pipeline.
use Rattle.std.proofs.Common.{◌≡◌, ℕ, Bool, true, false, ◌&&◌, refl}
use Rattle.std.proofs.lemmas.Bool.{false≢true, eqb-true}
use Rattle.gd_system.specs.Pipeline.{Pipeline}
use Rattle.gd_certificate.specs.Cutting.{Members}
use Rattle.gd_certificate.specs.Explained.{IsShaped}
use Rattle.gd_machine.specs.declared.event.Event.TheVariants.{Declare}
use Rattle.gd_machine.specs.declared.reply.Reply.{Reply}
use Rattle.gd_machine.specs.Day.{Day}
use Rattle.gd_machine.specs.History.{History}
use Rattle.gd_machine.specs.Machine.{IsAccepted, is_shaped, tests_of}
use Rattle.gd_machine.proofs.Legal.{all_false, not_false}

both_hold : (a b : Bool) → (a && b) ≡ true → (a ≡ true) × (b ≡ true)
both_hold true true e = (refl, refl)
both_hold true false e = absurd (false≢true e)
both_hold false b e = absurd (false≢true e)

shaped_by : (p : Pipeline) (cut : Members) → is_shaped p cut ≡ true → IsShaped p cut
shaped_by p cut e =
    let first = both_hold _ _ e in
    let later = both_hold _ _ first.1 in
    (eqb-true _ _ first.0, eqb-true _ _ later.0, eqb-true _ _ later.1)

pub shaped : (day : Day) (h : History) (moment round : ℕ) (cut : Members) (r : Reply) → IsAccepted day h (Declare moment round cut, r) → IsShaped day.holdings.pipeline cut
shaped day h moment round cut r accepted =
    let tests = all_false (tests_of day h (Declare moment round cut)) accepted.0 in
    shaped_by day.holdings.pipeline cut (not_false (is_shaped day.holdings.pipeline cut) tests.1.1.0)
