-- The slots of an office.
use Rattle.std.specs.Prelude.{◌≡◌, ℕ, ◌+◌, ◌-◌, ◌==◌, List, Option, Some, None, slice_get, All, if◌then◌else◌}
use Rattle.gd_book.specs.Kept.{Kept}
use Rattle.gd_machine.specs.Day.{Day}
use Rattle.gd_office_part.specs.Days.{IsDayOf}
use Rattle.gd_office_part.specs.Seen.{Session, Slot}

-- Slots count from 1: each has the number of its place.
abbrev pub AreNumbered : List Slot → Type 0
AreNumbered slots = (i : ℕ) (slot : Slot) → slice_get slots i ≡ Some slot → slot.number ≡ i + 1

-- The opening values of these books, which are put into slots in their order.
abbrev pub AreDaysOf : List Day → List Kept → Type 0
AreDaysOf days books = (i : ℕ) (book : Kept) → slice_get books i ≡ Some book → IsDayOf days (i + 1) book.day

-- The slot of a number, if there is one.
abbrev pub slot_of : List Slot → ℕ → Option Slot
slot_of slots number = if number == 0 then None else slice_get slots (number - 1)

-- The sessions are those of the slot of this number.
abbrev pub AreOf : ℕ → List Session → Type 0
AreOf number sessions = All (λ session. session.number ≡ number) sessions
