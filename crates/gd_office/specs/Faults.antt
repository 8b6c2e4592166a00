-- What the faults of an office say, and how they are printed: by their names.
use Rattle.std.specs.Prelude.{◌≡◌, ◌≢◌, ℕ, ◌-◌, ◌<◌, ◌≤◌, true, false, List, length, take, slice_get, None, codes, IsSomeAnd}
use Rattle.gd_office_part.specs.declared.kept.TheConstants.{MAX_SESSIONS}
use Rattle.gd_office_part.specs.declared.session.OfficeFault.{OfficeFault}
use Rattle.gd_office_part.specs.declared.session.OfficeFault.TheVariants as session
use Rattle.gd_office_part.specs.Seen.{Session, Slot}
use Rattle.gd_office.specs.declared.fault.OpenFault.{OpenFault}
use Rattle.gd_office.specs.declared.fault.OpenFault.TheVariants as opening
use Rattle.gd_office.specs.declared.fault.CloseFault.{CloseFault}
use Rattle.gd_office.specs.declared.fault.CloseFault.TheVariants as closing
use Rattle.gd_office.specs.declared.fault.TheConstants.{MAX_SLOTS}
use Rattle.gd_book.specs.Kept.{Kept}
use Rattle.gd_office.specs.Naming.{are_apart}
use Rattle.gd_office.specs.Slots.{slot_of, AreOf}

-- There are more books than slots can be; else two have one name; else memory was wanting.
abbrev pub ExplainsOpen : List Kept → OpenFault → Type 0
ExplainsOpen books opening.TooMany = MAX_SLOTS < length books
ExplainsOpen books opening.Duplicate = (length books ≤ MAX_SLOTS) × (are_apart books ≡ false)
ExplainsOpen books opening.OutOfMemory = (length books ≤ MAX_SLOTS) × (are_apart books ≡ true)

-- There is no slot of this number; else as many of its sessions are open as may be.
abbrev pub ExplainsSession : List Slot → ℕ → OfficeFault → Type 0
ExplainsSession slots number session.UnknownSlot = slot_of slots number ≡ None
ExplainsSession slots number session.TooMany = slot_of slots number ≢ None

-- There is no slot of this number; else the session at this place is the first of another slot; else so many open ones are
-- not handed in.
abbrev pub ExplainsClose : List Slot → ℕ → List Session → CloseFault → Type 0
ExplainsClose slots number sessions closing.UnknownSlot = slot_of slots number ≡ None
ExplainsClose slots number sessions (closing.WrongSlot at) =
    (slot_of slots number ≢ None)
    × IsSomeAnd (slice_get sessions at) (λ other. other.number ≢ number) × AreOf number (take at sessions)
ExplainsClose slots number sessions (closing.Missing count) =
    (slot_of slots number ≢ None) × AreOf number sessions × (count ≤ MAX_SESSIONS - length sessions)

abbrev pub open_fault_name : OpenFault → List ℕ
open_fault_name opening.TooMany = codes "TooMany"
open_fault_name opening.Duplicate = codes "Duplicate"
open_fault_name opening.OutOfMemory = codes "OutOfMemory"

abbrev pub close_fault_name : CloseFault → List ℕ
close_fault_name closing.UnknownSlot = codes "UnknownSlot"
close_fault_name (closing.WrongSlot at) = codes "WrongSlot"
close_fault_name (closing.Missing count) = codes "Missing"
