-- The rows that tell what a desk is told.
use Rattle.std.specs.Prelude.{ℕ, List, [], ◌∷◌, ◌++◌, Option, Some, None}
use Rattle.gd_question.specs.Posing.{Posed}
use Rattle.gd_certificate.specs.Explained.{IsShaped}
use Rattle.gd_machine.specs.declared.event.Event.{Event}
use Rattle.gd_machine.specs.declared.event.Event.TheVariants as event
use Rattle.gd_machine.specs.declared.reply.Reply.{Reply as BookReply}
use Rattle.gd_machine.specs.declared.reply.Reply.TheVariants as book
use Rattle.gd_office_part.specs.declared.kept.Receipt.{Receipt}
use Rattle.gd_office_part.specs.declared.kept.Told.{Told}
use Rattle.gd_office_part.specs.declared.kept.Told.TheVariants as told
use Rattle.gd_replies.specs.Days.{frozen_rows, published_rows, declared_rows}
use Rattle.gd_machine.specs.declared.call.Call.TheVariants as call
use Rattle.gd_replies.specs.declared.reply.Reply.{Reply}
use Rattle.gd_replies.specs.declared.reply.Reply.TheVariants as reply

-- ---- the freeze

-- The question that is frozen, or why the freeze is refused.
abbrev pub freeze_rows : Option Posed → Told → List Reply
freeze_rows (Some q) (told.Accepted number r) = frozen_rows number q
freeze_rows None (told.Accepted number r) = []
freeze_rows question (told.Refused len refusal) = reply.Refused call.Freeze refusal ∷ []

abbrev pub froze_rows : Option Posed → Receipt → List Reply
froze_rows question froze = freeze_rows question froze.told

-- ---- the end of the cycle

-- The schedule, or the cut, that is accepted under a number.
abbrev pub accepted_rows : Posed → Event → ℕ → BookReply → List Reply
accepted_rows q (event.Publish moment certificate) number (book.Published n cycle round bumped) =
    published_rows number cycle round certificate bumped
accepted_rows q (event.Declare moment asked cut) number (book.Declared n cycle round) =
    declared_rows number cycle round q.pipeline cut
accepted_rows q e number r = []

-- What is accepted, or why it is refused.
abbrev pub settle_rows : Posed → Event → Told → List Reply
settle_rows q e (told.Accepted number r) = accepted_rows q e number r
settle_rows q e (told.Refused len refusal) = reply.Refused call.Settle refusal ∷ []

abbrev pub closed_rows : Posed → Receipt → List Reply
closed_rows q closed = settle_rows q closed.event closed.told

-- Nothing, where no question is frozen or no end of its cycle was asked for.
abbrev pub ended_rows : Option Posed → Option Receipt → List Reply
ended_rows (Some q) (Some closed) = closed_rows q closed
ended_rows question closed = []

-- ---- the desk

-- The desk of a slot, slots counted from 1.
abbrev pub desk_rows : ℕ → Receipt → Option Posed → Option Receipt → List Reply
desk_rows slot froze question closed = reply.Slot slot ∷ froze_rows question froze ++ ended_rows question closed

-- A cut that is declared has one entry for each place, each point and each pool of the question.
abbrev pub HasShape : Posed → Event → Type 0
HasShape q (event.Declare moment round cut) = IsShaped q.pipeline cut
HasShape q e = Unit {0}

abbrev pub IsEndShaped : Option Posed → Option Receipt → Type 0
IsEndShaped (Some q) (Some closed) = HasShape q closed.event
IsEndShaped question closed = Unit {0}
