-- How refusals are printed: by their names.
use Rattle.std.specs.Prelude.{ℕ, List, codes}
use Rattle.gd_system.specs.declared.BuildFault.{BuildFault}
use Rattle.gd_system.specs.declared.BuildFault.TheVariants as build
use Rattle.gd_system.specs.declared.RouteFault.{RouteFault}
use Rattle.gd_system.specs.declared.RouteFault.TheVariants as route

abbrev pub build_fault_name : BuildFault → List ℕ
build_fault_name build.Duplicate = codes "Duplicate"
build_fault_name build.Unjoined = codes "Unjoined"
build_fault_name build.UnknownPlace = codes "UnknownPlace"
build_fault_name build.TooMany = codes "TooMany"
build_fault_name build.NoSegment = codes "NoSegment"
build_fault_name build.OutOfMemory = codes "OutOfMemory"

abbrev pub route_fault_name : RouteFault → List ℕ
route_fault_name route.UnknownEnd = codes "UnknownEnd"
route_fault_name route.WrongEnd = codes "WrongEnd"
route_fault_name route.SameEnd = codes "SameEnd"
route_fault_name route.NoRoute = codes "NoRoute"
route_fault_name route.OutOfMemory = codes "OutOfMemory"
