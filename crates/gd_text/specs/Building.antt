-- Values that rows build one after the other.
use Rattle.std.specs.Prelude.{◌≡◌, ◌⊎◌, ℕ, ◌+◌, List, [], ◌∷◌, Result, Ok, Err}
use Rattle.gd_text_part.specs.Rows.{◌>>=◌}
use Rattle.gd_text_part.specs.declared.fault.RowFault.{RowFault}
use Rattle.gd_text_part.specs.declared.fault.TextFault.{TextFault}
use Rattle.gd_text_part.specs.declared.fault.TextFault.TheVariants as fault
use Rattle.gd_text_part.specs.declared.row.Row.{Row}

-- What row n and those after it make of a value, each by the same step, or the first refusal.
unfoldable pub built_from : {X : Type 0} → (ℕ → X → Row → Result X TextFault) → ℕ → X → List Row → Result X TextFault
built_from step n x [] = Ok x
built_from step n x (r ∷ rows) = step n x r >>= λ y. built_from step (n + 1) y rows

-- A fault of a row as one of the text.
abbrev pub row_fault : RowFault → TextFault
row_fault f = fault.Row f.row f.cause

-- A refusal by another name.
abbrev pub result_as : {X F : Type 0} → (F → TextFault) → Result X F → Result X TextFault
result_as name (Ok x) = Ok x
result_as name (Err f) = Err (name f)

-- What a call made of a value, which is new now, or its refusal.
abbrev pub Becomes : {X : Type 0} → X → Result (Unit {0}) TextFault → Result X TextFault → Type 0
Becomes new (Ok x) made = made ≡ Ok new
Becomes new (Err e) made = made ≡ Err e

-- The same, or memory ran out.
abbrev pub MayBecome : {X : Type 0} → X → Result (Unit {0}) TextFault → Result X TextFault → Type 0
MayBecome new (Ok x) made = made ≡ Ok new
MayBecome new (Err e) made = (e ≡ fault.OutOfMemory) ⊎ (made ≡ Err e)

-- What was returned, seen by view, is what the rows build, or their first refusal; or memory ran out.
abbrev pub Builds : {X Y : Type 0} → (X → Y) → Result X TextFault → Result Y TextFault → Type 0
Builds view (Ok x) built = built ≡ Ok (view x)
Builds view (Err e) built = (e ≡ fault.OutOfMemory) ⊎ (built ≡ Err e)
