-- Why a book can't be opened, and how it is printed.
use Rattle.std.specs.Prelude.{◌≡◌, ℕ, ◌<◌, true, List, length, get_or, map, take, codes}
use Rattle.std.specs.List.{IsDistinct, list_any}
use Rattle.gd_rules.specs.Lines.{Key, same_key, no_key}
use Rattle.gd_book_part.specs.declared.opening.OpenFault.{OpenFault}
use Rattle.gd_book_part.specs.declared.opening.OpenFault.TheVariants.{Duplicate, OutOfMemory}

abbrev pub open_fault_name : OpenFault → List ℕ
open_fault_name (Duplicate position) = codes "Duplicate"
open_fault_name OutOfMemory = codes "OutOfMemory"

-- The key at this place stands before it, and no key before it stands twice.
abbrev pub IsFirstDuplicate : List Key → ℕ → Type 0
IsFirstDuplicate keys at = (at < length keys) × (list_any (same_key (get_or keys at no_key)) (take at keys) ≡ true) × IsDistinct same_key (take at keys)

-- What a fault says of what is carried over.
abbrev pub ExplainsOpen : List (Key × ℕ) → OpenFault → Type 0
ExplainsOpen carry (Duplicate position) = IsFirstDuplicate (map (λ e. e.0) carry) position
ExplainsOpen carry OutOfMemory = Unit {0}
