-- The times of the clock of the code.
use Rattle.gd_rules.specs.GasDay.{Day, Time}
use Rattle.gd_rules.specs.GasDay.Day.{Before, Same, After}
use Rattle.gd_zone.specs.declared.clock.Day.{Day as Code}
use Rattle.gd_zone.specs.declared.clock.Day.TheVariants as code
use Rattle.gd_zone.specs.declared.clock.CivilTime.{CivilTime}

abbrev pub day_of : Code → Day
day_of code.Before = Before
day_of code.Same = Same
day_of code.After = After

abbrev pub time_of : CivilTime → Time
time_of at = record { day = day_of at.0; hour = at.1; minute = at.2 }
