-- The texts of worked examples, line by line.
use Rattle.std.specs.Prelude.{ℕ, List, [], ◌∷◌, ◌++◌, Result, Err}
use Rattle.gd_text_part.specs.Texts.{rows_of}
use Rattle.gd_text_part.specs.declared.fault.Cause.{Cause}
use Rattle.gd_text_part.specs.declared.fault.RowFault.{RowFault}
use Rattle.gd_text_part.specs.declared.kind.Form.{Form}
use Rattle.gd_text_part.specs.declared.row.Row.{Row}

-- lines, each ended by a line feed
unfoldable pub text : List (List ℕ) → List ℕ
text [] = []
text (line ∷ lines) = line ++ 10 ∷ text lines

-- what is read of them in such a text
unfoldable pub read : Form → List (List ℕ) → Result (List Row) RowFault
unfolding text
read form lines = rows_of form (text lines)

-- a fault at row n
unfoldable pub refused : ℕ → Cause → Result (List Row) RowFault
refused n c = Err (record { row = n; cause = c })
