-- What a step of a book told.
use Rattle.std.specs.Prelude.{◌≡◌, ◌≢◌, ◌⊎◌, ◌+◌, ℕ, List, length, Option, None, Ok, Err}
use Rattle.gd_board.specs.declared.posting.Posting.{Posting}
use Rattle.gd_machine.specs.declared.event.Event.{Event}
use Rattle.gd_machine.specs.declared.event.Event.TheVariants.{Freeze, Publish}
use Rattle.gd_machine.specs.declared.reply.Reply.{Reply}
use Rattle.gd_machine.specs.declared.refusal.Refusal.TheVariants.{OutOfMemory}
use Rattle.gd_machine.specs.Day.{Day}
use Rattle.gd_machine.specs.History.{History}
use Rattle.gd_machine.specs.Headline.{IsHistoryOf}
use Rattle.gd_machine.specs.Steps.{Step}
use Rattle.gd_book.specs.Postings.{Posts}
use Rattle.gd_office_part.specs.declared.kept.Receipt.{Receipt}
use Rattle.gd_office_part.specs.declared.kept.Told.{Told}
use Rattle.gd_office_part.specs.declared.kept.Told.TheVariants.{Accepted, Refused}
use Rattle.gd_office_part.specs.Days.{IsDayOf}

-- One step of the machine: the event's number with its reply, or the length of the history with the refusal, which is never want of memory.
abbrev pub Tells : Day → History → Event → Told → History → Type 0
Tells day before event (Accepted number reply) after = Step day before event (Ok reply) after × (number ≡ length before + 1)
Tells day before event (Refused len refusal) after = Step day before event (Err refusal) after × (refusal ≢ OutOfMemory) × (len ≡ length before)

-- If the event is a publish, nothing was known of its cycle.
abbrev pub IsFresh : Option Posting → Event → Type 0
IsFresh known (Publish moment certificate) = known ≡ None
IsFresh known event = Unit {0}

-- The posting of a publish is known where it was accepted, and nothing was known of its cycle before.
abbrev pub PostsWhere : Day → History → Option Posting → Option Posting → Event → Told → Type 0
PostsWhere day before former known event (Accepted number reply) = Posts day before known event × IsFresh former event
PostsWhere day before former known event (Refused len refusal) = Unit {0}

-- The receipt of an event that was one step of the book of this slot, after some history of it.
abbrev pub Stepped : List Day → ℕ → Receipt → Type 0
Stepped days slot receipt =
    (day : Day) × (before : History) × (after : History) × IsDayOf days slot day
    × IsHistoryOf day before × Tells day before receipt.event receipt.told after

-- Either nothing happened, or a freeze at this moment was accepted.
abbrev pub IsFrozenAtMost : Day → History → ℕ → History → Type 0
IsFrozenAtMost day before moment after = (after ≡ before) ⊎ ((reply : Reply) × Step day before (Freeze moment) (Ok reply) after)
