-- How refusals are printed: by their names, and a refusal of a route by its own.
use Rattle.std.specs.Prelude.{ℕ, List, codes}
use Rattle.gd_system.specs.Names.{route_fault_name}
use Rattle.gd_question.specs.declared.fault.CapacityFault.{CapacityFault}
use Rattle.gd_question.specs.declared.fault.CapacityFault.TheVariants as capacity
use Rattle.gd_question.specs.declared.fault.LineFault.{LineFault}
use Rattle.gd_question.specs.declared.fault.LineFault.TheVariants as line

abbrev pub capacity_fault_name : CapacityFault → List ℕ
capacity_fault_name capacity.UnknownElement = codes "UnknownElement"
capacity_fault_name capacity.IsPool = codes "IsPool"

abbrev pub line_fault_name : LineFault → List ℕ
line_fault_name (line.Route fault) = route_fault_name fault
line_fault_name line.FloorAboveCeiling = codes "FloorAboveCeiling"
line_fault_name line.BadClass = codes "BadClass"
line_fault_name line.TooMany = codes "TooMany"
line_fault_name line.OutOfMemory = codes "OutOfMemory"
