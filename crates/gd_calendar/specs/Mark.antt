-- The marks of the code.
use Rattle.gd_rules.specs.GasDay.{Mark}
use Rattle.gd_rules.specs.GasDay.Mark.{Leaves, Received, Quick, Confirmed, Schedules, Effective}
use Rattle.gd_calendar.specs.declared.calendar.Mark.{Mark as Code}
use Rattle.gd_calendar.specs.declared.calendar.Mark.TheVariants as code

abbrev pub mark_of : Code → Mark
mark_of code.Leaves = Leaves
mark_of code.Received = Received
mark_of code.Quick = Quick
mark_of code.Confirmed = Confirmed
mark_of code.Schedules = Schedules
mark_of code.Effective = Effective
