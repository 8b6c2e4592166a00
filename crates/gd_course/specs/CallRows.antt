-- What is told of a call of a book.
use Rattle.std.specs.Prelude.{◌≡◌, ◌≢◌, ◌+◌, List, [], ◌∷◌, Result, Ok, Err}
use Rattle.gd_machine.specs.declared.event.Event.{Event}
use Rattle.gd_machine.specs.declared.event.Event.TheVariants as event
use Rattle.gd_machine.specs.declared.reply.Reply.{Reply as BookReply}
use Rattle.gd_machine.specs.declared.reply.Reply.TheVariants as book
use Rattle.gd_machine.specs.declared.refusal.Refusal.{Refusal}
use Rattle.gd_machine.specs.declared.refusal.Refusal.TheVariants.{OutOfMemory}
use Rattle.gd_machine.specs.Day.{Day}
use Rattle.gd_machine.specs.History.{History}
use Rattle.gd_machine.specs.Asking.{question}
use Rattle.gd_machine.specs.Steps.{Step}
use Rattle.gd_replies.specs.Days.{frozen_rows, published_rows, declared_rows}
use Rattle.gd_machine.specs.declared.call.Call.{Call}
use Rattle.gd_replies.specs.declared.reply.Reply.{Reply}
use Rattle.gd_replies.specs.declared.reply.Reply.TheVariants as reply

-- What is told of an accepted event with its reply, after which the history is this one: its number, and what it gave.
abbrev pub accepted_rows : Day → History → Event → BookReply → List Reply
accepted_rows day h e (book.Accepted number cycle line) = reply.Accepted number cycle (line + 1) ∷ []
accepted_rows day h e (book.Done number) = reply.Done number ∷ []
accepted_rows day h e (book.Frozen number cycle round lines) = frozen_rows number (question day h)
accepted_rows day h (event.Publish moment certificate) (book.Published number cycle round bumped) =
    published_rows number cycle round certificate bumped
accepted_rows day h (event.Declare moment asked cut) (book.Declared number cycle round) =
    declared_rows number cycle round day.holdings.pipeline cut
accepted_rows day h e r = []

-- What is told of a call's answer: what it gave, or why it is refused.
abbrev pub answer_rows : Call → Day → History → Event → Result BookReply Refusal → List Reply
answer_rows call day h e (Ok r) = accepted_rows day h e r
answer_rows call day h e (Err refusal) = reply.Refused call refusal ∷ []

-- An answer that is told: want of memory ends the run in its place.
abbrev pub IsTold : Result BookReply Refusal → Type 0
IsTold r = r ≢ Err OutOfMemory

-- One step of the machine by this event, and what is told of it.
abbrev pub Steps : Call → Day → History → Event → List Reply → History → Type 0
Steps call day h e rows after =
    (r : Result BookReply Refusal) × Step day h e r after × IsTold r × (rows ≡ answer_rows call day after e r)

-- No step: this row alone is told.
abbrev pub Stays : Reply → History → List Reply → History → Type 0
Stays told h rows after = (rows ≡ told ∷ []) × (after ≡ h)
