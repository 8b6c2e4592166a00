use Rattle.std.proofs.Common.{◌≡◌, map, take, vec_len}
use Rattle.std.specs.List.{AllZip}
use Rattle.gasday_office.specs.Days.{opened}
use Rattle.gasday_office.specs.Offices.{IsCalendarFor}
use Rattle.gasday_office.proofs.books.calendars_of.Given as goal

abbrev pub invariant-loop-day : goal.invariant-loop-day
invariant-loop-day l = (vec_len l.calendars ≡ l.day-index) × AllZip IsCalendarFor (map opened (take l.day-index l.days)) l.calendars.items
