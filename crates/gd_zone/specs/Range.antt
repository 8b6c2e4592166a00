-- The gas days that there are.
use Rattle.std.specs.Prelude.{pos, ◌≤ℤ◌}
use Rattle.jiff_core.specs.Calendar.{days_from_civil}
use Rattle.jiff_core.specs.Date.{epoch_day}
use Rattle.jiff_core.specs.declared.civil.date.Date.{Date}

-- From 2016-04-02 to 2099-12-31. The five cycles are in force since 2016-04-01, and the first two of a gas day are held on the day before it.
abbrev pub IsGasDay : Date → Type 0
IsGasDay day = (days_from_civil (pos 2016) 4 2 ≤ℤ epoch_day day) × (epoch_day day ≤ℤ days_from_civil (pos 2099) 12 31)
