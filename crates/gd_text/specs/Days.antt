-- The gas day that a text asks about.
use Rattle.std.specs.Prelude.{ℕ, List, [], ◌∷◌, length, Option, Some, None, Result, Ok, Err}
use Rattle.gd_text_part.specs.Dates.{YearMonthDay}
use Rattle.gd_text_part.specs.Places.{missing_head}
use Rattle.gd_text_part.specs.declared.fault.TextFault.{TextFault}
use Rattle.gd_text_part.specs.declared.row.Row.{Row}
use Rattle.gd_text_part.specs.declared.row.Row.TheVariants as row
use Rattle.gd_text.specs.Building.{row_fault}

-- The date and the zone of the first `day` row.
abbrev pub first_day : List Row → Option (YearMonthDay × List ℕ)
first_day [] = None
first_day (row.Day date zone book ∷ rows) = Some (date, zone)
first_day (r ∷ rows) = first_day rows

abbrev pub day_under : List Row → Option (YearMonthDay × List ℕ) → Result (YearMonthDay × List ℕ) TextFault
day_under rows None = Err (row_fault (missing_head (length rows)))
day_under rows (Some day) = Ok day

-- The gas day of a text, or that it has none.
abbrev pub day_of : List Row → Result (YearMonthDay × List ℕ) TextFault
day_of rows = day_under rows (first_day rows)
