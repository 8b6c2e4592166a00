-- How the faults of this crate are printed.
use Rattle.std.specs.Prelude.{ℕ, List, codes}
use Rattle.gd_zone.specs.declared.gas_day.GasDayFault.{GasDayFault}
use Rattle.gd_zone.specs.declared.gas_day.GasDayFault.TheVariants.{OutOfRange}
use Rattle.gd_zone.specs.declared.gas_day.CalendarFault.{CalendarFault}
use Rattle.gd_zone.specs.declared.gas_day.CalendarFault.TheVariants.{BadZone, OutOfMemory}

abbrev pub gas_day_fault_name : GasDayFault → List ℕ
gas_day_fault_name OutOfRange = codes "OutOfRange"

abbrev pub calendar_fault_name : CalendarFault → List ℕ
calendar_fault_name BadZone = codes "BadZone"
calendar_fault_name OutOfMemory = codes "OutOfMemory"
