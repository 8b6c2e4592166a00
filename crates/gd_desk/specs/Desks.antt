-- What the desk of a slot does.
use Rattle.std.specs.Prelude.{◌≡◌, ℕ, ◌+◌, true, false, List, [], ◌∷◌, Option, Some, None, Result, IfOk, codes}
use Rattle.gd_question.specs.Posing.{Posed}
use Rattle.gd_certificate.specs.Checked.{IsRight}
use Rattle.gd_certificate.specs.Explained.{IsShaped, Cuts}
use Rattle.gd_machine.specs.declared.event.Event.{Event}
use Rattle.gd_machine.specs.declared.event.Event.TheVariants.{Freeze, Publish, Declare}
use Rattle.gd_machine.specs.Day.{Day}
use Rattle.gd_machine.specs.History.{History, is_frozen}
use Rattle.gd_machine.specs.Asking.{question}
use Rattle.gd_machine.specs.Headline.{IsHistoryOf}
use Rattle.gd_office_part.specs.declared.kept.Receipt.{Receipt}
use Rattle.gd_office_part.specs.Days.{IsDayOf}
use Rattle.gd_office_part.specs.StepResults.{Tells, Stepped}
use Rattle.gd_desk.specs.declared.desk.Desk.{Desk}
use Rattle.gd_desk.specs.declared.desk.DeskFault.{DeskFault}
use Rattle.gd_desk.specs.declared.desk.DeskFault.TheVariants.{NoThread, OutOfMemory}

-- The question that is frozen after a history, if it is frozen.
abbrev pub IsAsked : Day → History → Option Posed → Type 0
IsAsked day h None = is_frozen h ≡ false
IsAsked day h (Some q) = (is_frozen h ≡ true) × (q ≡ question day h)

-- The receipt of a freeze at this moment, which was one step of the book of this slot after some history of it, and the
-- question that is frozen then.
abbrev pub Froze : List Day → ℕ → ℕ → Receipt → Option Posed → Type 0
Froze days slot moment froze asked =
    (froze.event ≡ Freeze moment)
    × ((day : Day) × (before : History) × (after : History) × IsDayOf days slot day
    × IsHistoryOf day before × Tells day before (Freeze moment) froze.told after × IsAsked day after asked)

-- A publish at this moment of a schedule for the question with prices that show it best, or a declare at this moment and at the
-- question's round by a cut that shows that it has none.
abbrev pub ClosesFor : ℕ → Posed → Event → Type 0
ClosesFor moment q (Publish m certificate) = (m ≡ moment) × (certificate.question ≡ q) × IsRight certificate
ClosesFor moment q (Declare m round cut) = (m ≡ moment) × (round ≡ q.round) × IsShaped q.pipeline cut × Cuts q cut
ClosesFor moment q event = ⊥

-- The receipt of such an event.
abbrev pub Closes : List Day → ℕ → ℕ → Posed → Receipt → Type 0
Closes days slot moment q receipt = ClosesFor moment q receipt.event × Stepped days slot receipt

-- A question that is frozen is closed.
abbrev pub IsClosed : List Day → ℕ → ℕ → Option Posed → Option Receipt → Type 0
IsClosed days slot moment None None = Unit {0}
IsClosed days slot moment (Some q) (Some receipt) = Closes days slot moment q receipt
IsClosed days slot moment None (Some receipt) = ⊥
IsClosed days slot moment (Some q) None = ⊥

-- The book of this slot is frozen at this moment, and the question that is frozen then is closed.
abbrev pub IsDesk : List Day → ℕ → ℕ → Desk → Type 0
IsDesk days slot moment desk = Froze days slot moment desk.froze desk.question × IsClosed days slot moment desk.question desk.closed

-- What is said of a slot and an item holds of each item, where the first is that of this slot.
abbrev pub EachFrom : {X : Type 0} → (ℕ → X → Type 0) → ℕ → List X → Type 0
EachFrom P slot [] = Unit {0}
EachFrom P slot (x ∷ xs) = P slot x × EachFrom P (slot + 1) xs

-- There is a desk of this moment of each slot, in their order.
abbrev pub AreDesks : List Day → ℕ → List Desk → Type 0
AreDesks days moment desks = EachFrom (λ slot desk. IsDesk days slot moment desk) 1 desks

-- The same, where a slot may have a fault in place of its desk.
abbrev pub AreTried : List Day → ℕ → List (Result Desk DeskFault) → Type 0
AreTried days moment desks = EachFrom (λ slot desk. IfOk desk (IsDesk days slot moment)) 1 desks

abbrev pub desk_fault_name : DeskFault → List ℕ
desk_fault_name NoThread = codes "NoThread"
desk_fault_name OutOfMemory = codes "OutOfMemory"
