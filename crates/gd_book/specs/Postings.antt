-- What is known of the board after a publish.
use Rattle.std.specs.Prelude.{◌≡◌, ℕ, Option, Some, None, take, slice_get}
use Rattle.gd_board.specs.Known.{Knowledge, known_of}
use Rattle.gd_board.specs.declared.posting.Posting.{Posting}
use Rattle.gd_certificate.specs.Checked.{Certificate}
use Rattle.gd_machine.specs.declared.event.Event.{Event}
use Rattle.gd_machine.specs.declared.event.Event.TheVariants.{Publish}
use Rattle.gd_machine.specs.declared.reply.Reply.{Reply}
use Rattle.gd_machine.specs.Day.{Day}
use Rattle.gd_machine.specs.History.{History, cycle_of, round_of}
use Rattle.gd_machine.specs.Asking.{bumped_lines}

-- A posting of the current cycle and round, with the certificate's question, schedule and prices and the lines that it bumps.
pub record Tells (day : Day) (h : History) (certificate : Certificate) (posting : Posting) : Type 0 where
  pub book : posting.book ≡ day.name
  pub cycle : posting.cycle ≡ cycle_of h
  pub round : posting.round ≡ round_of h
  pub question : posting.question ≡ certificate.question
  pub schedule : posting.schedule ≡ certificate.schedule
  pub prices : posting.prices ≡ certificate.prices
  pub bumped : posting.bumped ≡ bumped_lines day h certificate.schedule

-- Such a posting is known.
abbrev pub IsPosted : Day → History → Certificate → Option Posting → Type 0
IsPosted day h certificate None = ⊥
IsPosted day h certificate (Some posting) = Tells day h certificate posting

-- If the event is a publish, a posting of its certificate is known.
abbrev pub Posts : Day → History → Option Posting → Event → Type 0
Posts day h known (Publish moment certificate) = IsPosted day h certificate known
Posts day h known event = Unit {0}

-- Of each publish of a history a posting is known, in the cell of its cycle.
abbrev pub AllPosted : Day → History → Knowledge → Type 0
AllPosted day h known =
    (k : ℕ) (p : Event × Reply) → slice_get h k ≡ Some p
    → Posts day (take k h) (known_of known (cycle_of (take k h))) p.0
