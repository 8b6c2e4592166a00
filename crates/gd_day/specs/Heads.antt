-- The head of a gas day's text: its date, the time zone of its clock, and the name of its book.
use Rattle.std.specs.Prelude.{ℕ, List, [], ◌∷◌, length, Option, Some, None, Result, Ok, Err}
use Rattle.gd_text_part.specs.Dates.{YearMonthDay}
use Rattle.gd_text_part.specs.Places.{missing_head}
use Rattle.gd_text_part.specs.declared.fault.TextFault.{TextFault}
use Rattle.gd_text_part.specs.declared.row.Row.{Row}
use Rattle.gd_text_part.specs.declared.row.Row.TheVariants as row
use Rattle.gd_text.specs.Building.{row_fault}

-- The date, the zone and the name of the book.
abbrev pub Head : Type 0
Head = YearMonthDay × List ℕ × List ℕ

abbrev pub with_book : YearMonthDay → List ℕ → Option (List ℕ) → Option Head
with_book date zone None = None
with_book date zone (Some book) = Some (date, zone, book)

-- The first `day` row, where it names a book.
abbrev pub first_head : List Row → Option Head
first_head [] = None
first_head (row.Day date zone book ∷ rows) = with_book date zone book
first_head (r ∷ rows) = first_head rows

abbrev pub head_under : List Row → Option Head → Result Head TextFault
head_under rows None = Err (row_fault (missing_head (length rows)))
head_under rows (Some head) = Ok head

-- The head of a text, or that it has none.
abbrev pub head_of : List Row → Result Head TextFault
head_of rows = head_under rows (first_head rows)
