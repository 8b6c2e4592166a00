-- Dates in the form YYYY-MM-DD.
use Rattle.std.specs.Prelude.{ℕ, ◌==◌, ◌&&◌, nat_le, Bool, List, length, take, drop, Option, Some, None, pos, get_or, if◌then◌else◌}
use Rattle.jiff_core.specs.Calendar.{days_in_month}
use Rattle.gd_text_part.specs.Numbers.{number_of}

pub record YearMonthDay : Type 0 where
  pub year : ℕ
  pub month : ℕ
  pub day : ℕ

-- the calendar has this day
abbrev pub is_day : ℕ → ℕ → ℕ → Bool
is_day y m d = nat_le y 9999 && (nat_le 1 m && nat_le m 12) && (nat_le 1 d && nat_le d (days_in_month (pos y) m))

abbrev pub civil_date : ℕ → ℕ → ℕ → Option YearMonthDay
civil_date y m d = if is_day y m d then Some (record { year = y; month = m; day = d }) else None

abbrev pub date_from : Option ℕ → Option ℕ → Option ℕ → Option YearMonthDay
date_from (Some y) (Some m) (Some d) = civil_date y m d
date_from y m d = None

-- the date that four, two and two digits spell, with '-' between
abbrev pub date_of : List ℕ → Option YearMonthDay
date_of text =
    if (length text == 10) && (get_or text 4 0 == 45) && (get_or text 7 0 == 45)
    then date_from (number_of (take 4 text)) (number_of (take 2 (drop 5 text))) (number_of (drop 8 text))
    else None
