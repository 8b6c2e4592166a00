-- What a name is, and how one is read; and how the faults of this crate are printed.
use Rattle.std.specs.Prelude.{ℕ, ◌==◌, ◌&&◌, ◌||◌, not, nat_le, nat_lt, Bool, List, length, Option, Some, None, Result, Ok, Err, position, codes, if◌then◌else◌}
use Rattle.gd_units.specs.declared.name.NameFault.{NameFault}
use Rattle.gd_units.specs.declared.name.NameFault.TheVariants as fault
use Rattle.gd_units.specs.declared.quantity.DthFault.{DthFault}
use Rattle.gd_units.specs.declared.quantity.DthFault.TheVariants.{TooLarge}

-- an upper case letter, a digit or '-'
abbrev pub is_name_byte : ℕ → Bool
is_name_byte b = (nat_le 65 b && nat_le b 90) || (nat_le 48 b && nat_le b 57) || (b == 45)

-- the first byte that no name has
abbrev pub bad_byte : List ℕ → Option ℕ
bad_byte bytes = position (λ b. not (is_name_byte b)) bytes

abbrev pub checked_name : List ℕ → Option ℕ → Result (List ℕ) NameFault
checked_name bytes None = Ok bytes
checked_name bytes (Some at) = Err (fault.BadByte at)

-- the name that the bytes spell, or the first fault
abbrev pub name_of : List ℕ → Result (List ℕ) NameFault
name_of bytes =
    if length bytes == 0 then Err fault.Empty
    else if nat_lt 16 (length bytes) then Err fault.TooLong
    else checked_name bytes (bad_byte bytes)

-- how a name's fault is printed: by its own name, without the place of the byte
abbrev pub name_fault_name : NameFault → List ℕ
name_fault_name fault.Empty = codes "Empty"
name_fault_name fault.TooLong = codes "TooLong"
name_fault_name (fault.BadByte at) = codes "BadByte"

-- how a quantity's fault is printed
abbrev pub dth_fault_name : DthFault → List ℕ
dth_fault_name TooLarge = codes "TooLarge"
