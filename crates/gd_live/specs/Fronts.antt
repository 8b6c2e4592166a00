-- The rows of a text that goes on.
use Rattle.std.specs.Prelude.{ℕ, ◌+◌, List, [], ◌∷◌, ◌++◌, Result, Ok}
use Rattle.gd_text_part.specs.Csv.{records_of}
use Rattle.gd_text_part.specs.Places.{start, row_of}
use Rattle.gd_text_part.specs.Rows.{◌>>=◌}
use Rattle.gd_text_part.specs.Texts.{rows_from}
use Rattle.gd_text_part.specs.declared.fault.RowFault.{RowFault}
use Rattle.gd_text_part.specs.declared.kind.Form.{Form}
use Rattle.gd_text_part.specs.declared.order.Place.{Place}
use Rattle.gd_text_part.specs.declared.row.Row.{Row}

-- the rows that records are behind n others, and where rows stand behind them, or the first fault; whether the text may end
-- there isn't asked
abbrev pub front_from : Form → Place → ℕ → List (List (List ℕ)) → Result (List Row × Place) RowFault
front_from form place n [] = Ok ([], place)
front_from form place n (fields ∷ records) = do
  taken ← row_of form place (n + 1) fields
  front ← front_from form taken.1 (n + 1) records
  Ok (taken.0 ∷ front.0, front.1)

-- the rows of a text so far
abbrev pub front_of : Form → List ℕ → Result (List Row × Place) RowFault
front_of form text = front_from form start 0 (records_of text)

-- a front of n rows, and then what these records are behind it
abbrev pub longer_front : Form → Result (List Row × Place) RowFault → ℕ → List (List (List ℕ)) → Result (List Row × Place) RowFault
longer_front form front n more = do
  it ← front
  rest ← front_from form it.1 n more
  Ok (it.0 ++ rest.0, rest.1)

-- the rows of a front of n rows, and then those of these records, behind which the text ends
abbrev pub ended_front : Form → Result (List Row × Place) RowFault → ℕ → List (List (List ℕ)) → Result (List Row) RowFault
ended_front form front n more = do
  it ← front
  rows ← rows_from form it.1 n more
  Ok (it.0 ++ rows)
