-- How the prices of all groups are checked with one table. For each element at each class it has the number of the row that
-- gave its price last, or 0: where that row stands in the group, the price is given twice. So no group needs a table of
-- its own.
use Rattle.std.specs.Prelude.{◌<◌, ℕ, List, set, get_or, nat_le, Option, Some, None, Result, Ok, Err, if◌then◌else◌}
use Rattle.gd_system.specs.Pipeline.{Pipeline, element_number}
use Rattle.gd_text_part.specs.declared.fault.Cause.TheVariants as cause
use Rattle.gd_text_part.specs.declared.fault.TextFault.{TextFault}
use Rattle.gd_text_part.specs.declared.fault.TextFault.TheVariants as fault
use Rattle.gd_text_part.specs.declared.row.Row.{Row}
use Rattle.gd_text_part.specs.declared.row.Row.TheVariants as row
use Rattle.gd_text.specs.Members.{member_step, none_inside}
use Rattle.gd_text.specs.Prices.{place}
use Rattle.gd_day.specs.Groups.{checked}

-- The table after row n gives the price of an element at a class, where row `first` is the first of the group.
abbrev pub mark_at : ℕ → ℕ → List ℕ → Option ℕ → ℕ → Result (List ℕ) TextFault
mark_at first n last None class = Err (fault.Row n cause.UnknownElement)
mark_at first n last (Some e) class =
    if nat_le first (get_or last (place e class) 0) then Err (fault.Row n cause.Duplicate)
    else Ok (set last (place e class) n)

abbrev pub mark_step : Pipeline → ℕ → ℕ → List ℕ → Row → Result (List ℕ) TextFault
mark_step p first n last (row.Price element class word spread) = mark_at first n last (element_number p element) class
mark_step p first n last r = Ok last

-- All rows that the table knows stand before row n.
abbrev pub AreBefore : ℕ → List ℕ → Type 0
AreBefore n last = (k : ℕ) → get_or last k 0 < n

-- That row n names a member, where it is an `inside` row.
abbrev pub inside_step : Pipeline → ℕ → Unit {0} → Row → Result (Unit {0}) TextFault
inside_step p n named r = checked (member_step p n (none_inside p) r)
