-- One step of a book, and a refusal that fits its history.
use Rattle.std.specs.Prelude.{◌≡◌, ℕ, [], ◌∷◌, ◌++◌, length, take, Some, None, Result, Ok, Err, ◌≤◌, ◌⊎◌}
use Rattle.gd_machine.specs.declared.event.Event.{Event}
use Rattle.gd_machine.specs.declared.event.Event.TheVariants.{Publish}
use Rattle.gd_machine.specs.declared.reply.Reply.{Reply}
use Rattle.gd_machine.specs.declared.refusal.Refusal.{Refusal}
use Rattle.gd_machine.specs.declared.refusal.Refusal.TheVariants.{OutOfMemory, BoardTaken}
use Rattle.gd_machine.specs.Day.{Day}
use Rattle.gd_machine.specs.History.{History}
use Rattle.gd_machine.specs.Machine.{refusal_of, IsAccepted}

abbrev pub IsPublish : Event → Type 0
IsPublish (Publish moment certificate) = Unit {0}
IsPublish event = ⊥

-- The machine may refuse the event so: by the first refusal that applies, for want of memory, or where a publish meets no refusal and the board is taken.
abbrev pub MayRefuse : Day → History → Event → Refusal → Type 0
MayRefuse day h event refusal =
    (refusal_of day h event ≡ Some refusal) ⊎ (refusal ≡ OutOfMemory) ⊎ ((refusal ≡ BoardTaken) × IsPublish event × (refusal_of day h event ≡ None))

-- One step: the machine may give this answer to the event, and go on to the history after.
abbrev pub Step : Day → History → Event → Result Reply Refusal → History → Type 0
Step day h event (Ok reply) after = IsAccepted day h (event, reply) × (after ≡ h ++ (event, reply) ∷ [])
Step day h event (Err refusal) after = MayRefuse day h event refusal × (after ≡ h)

-- A refusal fits a length if it is a possible answer after so many pairs.
abbrev pub Fits : Day → History → ℕ → Event → Refusal → Type 0
Fits day h k event refusal = (k ≤ length h) × MayRefuse day (take k h) event refusal
