-- The rows of a text, or its first fault, and what reading a text may answer.
use Rattle.std.specs.Prelude.{◌≡◌, ◌≤◌, ◌<◌, ◌⊎◌, ℕ, ◌+◌, List, [], ◌∷◌, length, Result, Ok, Err, ⊤}
use Rattle.gd_text_part.specs.Csv.{records_of}
use Rattle.gd_text_part.specs.Places.{start, row_of, at_end}
use Rattle.gd_text_part.specs.Rows.{◌>>=◌}
use Rattle.gd_text_part.specs.declared.input.TheConstants.{MAX_BYTES, MAX_READS}
use Rattle.gd_text_part.specs.declared.records.TheConstants.{MAX_ROWS}
use Rattle.gd_text_part.specs.declared.fault.RowFault.{RowFault}
use Rattle.gd_text_part.specs.declared.fault.TextFault.{TextFault}
use Rattle.gd_text_part.specs.declared.fault.TextFault.TheVariants as fault
use Rattle.gd_text_part.specs.declared.kind.Form.{Form}
use Rattle.gd_text_part.specs.declared.order.Place.{Place}
use Rattle.gd_text_part.specs.declared.row.Row.{Row}

-- the rows that records are behind n others, or the first fault with its row
unfoldable pub rows_from : Form → Place → ℕ → List (List (List ℕ)) → Result (List Row) RowFault
rows_from form place n [] = do
  whole ← at_end place n
  Ok []
rows_from form place n (fields ∷ records) = do
  taken ← row_of form place (n + 1) fields
  rows ← rows_from form taken.1 (n + 1) records
  Ok (taken.0 ∷ rows)

-- the rows of a text for a command, or its first fault
abbrev pub rows_of : Form → List ℕ → Result (List Row) RowFault
rows_of form text = rows_from form start 0 (records_of text)

-- a text has no more bytes and rows than it may have
pub record IsWithin (text : List ℕ) : Type 0 where
  pub bytes : length text ≤ MAX_BYTES
  pub rows : length (records_of text) ≤ MAX_ROWS

-- a text has more bytes than it may have, or so many that they can take all the reads, each of which gives one
-- byte at least
abbrev pub HasManyBytes : List ℕ → Type 0
HasManyBytes text = (MAX_BYTES < length text) ⊎ (MAX_READS ≤ length text)

abbrev pub HasManyRows : List ℕ → Type 0
HasManyRows text = MAX_ROWS < length (records_of text)

-- a text has more bytes or rows than it may have
abbrev pub IsTooLong : List ℕ → Type 0
IsTooLong text = (MAX_BYTES < length text) ⊎ HasManyRows text

-- What is told of a text in memory. Its rows or its first fault, where it is within its limits, or that it is too long;
-- and nothing else but want of memory.
abbrev pub Tells : {X : Type 0} → (X → List Row) → Form → List ℕ → Result X TextFault → Type 0
Tells view form text (Ok x) = IsWithin text × (rows_of form text ≡ Ok (view x))
Tells view form text (Err (fault.Row n c)) = IsWithin text × (rows_of form text ≡ Err (record { row = n; cause = c }))
Tells view form text (Err fault.TooLong) = IsTooLong text
Tells view form text (Err fault.ReadFailed) = ⊥
Tells view form text (Err fault.OutOfMemory) = ⊤

-- What reading a text may answer. Its rows or its first fault, and then the text is within its limits; that it is
-- too long, and then it is; or that the reader failed or memory ran out.
abbrev pub Reads : {X : Type 0} → (X → List Row) → Form → List ℕ → Result X TextFault → Type 0
Reads view form text (Ok x) = IsWithin text × (rows_of form text ≡ Ok (view x))
Reads view form text (Err (fault.Row n c)) = IsWithin text × (rows_of form text ≡ Err (record { row = n; cause = c }))
Reads view form text (Err fault.TooLong) = HasManyBytes text ⊎ HasManyRows text
Reads view form text (Err fault.ReadFailed) = ⊤
Reads view form text (Err fault.OutOfMemory) = ⊤

-- a fault that no row is blamed for, and TooLong only where the text is
abbrev pub BlamesNoRow : Type 0 → TextFault → Type 0
BlamesNoRow long fault.ReadFailed = ⊤
BlamesNoRow long fault.TooLong = long
BlamesNoRow long (fault.Row n c) = ⊥
BlamesNoRow long fault.OutOfMemory = ⊤

-- the same of a text in memory, which no reader fails to give
abbrev pub BlamesLength : Type 0 → TextFault → Type 0
BlamesLength long fault.ReadFailed = ⊥
BlamesLength long fault.TooLong = long
BlamesLength long (fault.Row n c) = ⊥
BlamesLength long fault.OutOfMemory = ⊤
