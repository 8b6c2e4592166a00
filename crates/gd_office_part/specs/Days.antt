-- The opening values of an office's books.
use Rattle.std.specs.Prelude.{◌≡◌, ℕ, ◌-◌, List, slice_get, Some}
use Rattle.gd_machine.specs.Day.{Day}

-- The opening values of the book in the slot of this number, where the list has those of each slot in order. Where it has none at the slot's place, nothing is said.
abbrev pub IsDayOf : List Day → ℕ → Day → Type 0
IsDayOf days slot day = (known : Day) → slice_get days (slot - 1) ≡ Some known → day ≡ known
