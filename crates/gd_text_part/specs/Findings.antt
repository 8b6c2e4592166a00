-- What is found of a record, where memory may run out.
use Rattle.std.specs.Prelude.{◌≡◌, ℕ, Result, Ok, Err, ⊤}
use Rattle.gd_text_part.specs.declared.fault.Cause.{Cause}
use Rattle.gd_text_part.specs.declared.fault.RowFault.{RowFault}
use Rattle.gd_text_part.specs.declared.fault.TextFault.{TextFault}
use Rattle.gd_text_part.specs.declared.fault.TextFault.TheVariants as fault

-- a fault, told at row n
abbrev pub at_row : {A : Type 0} → ℕ → Result A Cause → Result A RowFault
at_row n (Ok x) = Ok x
at_row n (Err c) = Err (record { row = n; cause = c })

-- what was found is what is there, or memory ran out
abbrev pub Finds : {A : Type 0} → Result A TextFault → Result A RowFault → Type 0
Finds (Ok x) there = there ≡ Ok x
Finds (Err (fault.Row n c)) there = there ≡ Err (record { row = n; cause = c })
Finds (Err fault.OutOfMemory) there = ⊤
Finds (Err f) there = ⊥

-- what was found, with what stands behind it
abbrev pub behind : {A B : Type 0} → Result A TextFault → B → Result (A × B) TextFault
behind (Ok x) place = Ok (x, place)
behind (Err f) place = Err f
