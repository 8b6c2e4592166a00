-- Where a text may be cut.
use Rattle.std.specs.Prelude.{◌≡◌, ℕ, List, [], ◌∷◌, if◌then◌else◌}
use Rattle.csv.specs.Machine.{step, is_end, fields_after, field_after}
use Rattle.csv.specs.Reading.{default_config}
use Rattle.csv.specs.declared.parser.State.{State}
use Rattle.csv.specs.declared.parser.State.TheVariants as st

-- the state of csv's machine behind some bytes, with the fields and the field at hand
abbrev pub Left : Type 0
Left = State × List (List ℕ) × List ℕ

-- what bytes leave behind a state, fields and a field
abbrev pub left_by : State → List (List ℕ) → List ℕ → List ℕ → Left
left_by s fields field [] = (s, fields, field)
left_by s fields field (c ∷ bytes) =
    if is_end (step default_config s c).1 then left_by (step default_config s c).0 [] [] bytes
    else left_by (step default_config s c).0 (fields_after (step default_config s c).1 fields field) (field_after (step default_config s c).1 c field) bytes

-- behind the bytes a record begins
abbrev pub IsClosed : List ℕ → Type 0
IsClosed bytes = left_by st.StartRecord [] [] bytes ≡ (st.StartRecord, [], [])
