use Rattle.std.proofs.Common.{◌+◌}
use Rattle.gd_calendar.proofs.Calendars.{AllBefore}
use Rattle.gd_calendar.proofs.calendar.Calendar.cycle_of.Given as goal

abbrev pub invariant-loop-cycle : goal.invariant-loop-cycle
invariant-loop-cycle l = AllBefore l.self l.moment (l.cycle-index + 1)
