-- What comes of a frozen question, as a reader of the history meets it.
use Rattle.std.specs.Prelude.{◌≡◌, false, Option, Some, None}
use Rattle.gd_certificate.specs.Checked.{Certificate}
use Rattle.gd_certificate.specs.Cutting.{Members}
use Rattle.gd_machine.specs.declared.event.Event.{Event}
use Rattle.gd_machine.specs.declared.event.Event.TheVariants.{Publish, Declare}
use Rattle.gd_machine.specs.declared.reply.Reply.{Reply}
use Rattle.gd_rounds.specs.Rounds.{answers}
use Rattle.gd_rounds.specs.declared.outcome.Outcome.{Outcome}
use Rattle.gd_rounds.specs.declared.outcome.Outcome.TheVariants.{Nothing, Published, Declared, Other}

-- the event is there, and this holds of it
abbrev pub Meets : (Event → Type 0) → Option (Event × Reply) → Type 0
Meets Holds (Some p) = Holds p.0
Meets Holds None = ⊥

abbrev pub Publishes : Certificate → Event → Type 0
Publishes c (Publish moment certificate) = c ≡ certificate
Publishes c event = ⊥

abbrev pub Declares : Members → Event → Type 0
Declares m (Declare moment round cut) = m ≡ cut
Declares m event = ⊥

-- no event is there, or it publishes this certificate, declares by this set, or answers no question
abbrev pub IsOutcome : Option (Event × Reply) → Outcome → Type 0
IsOutcome next Nothing = next ≡ None
IsOutcome next (Published found) = Meets (Publishes found.now) next
IsOutcome next (Declared found) = Meets (Declares found.now) next
IsOutcome next Other = Meets (λ event. answers event ≡ false) next
