-- How calls and refusals are printed: by their names. A route's fault stands in its place.
use Rattle.std.specs.Prelude.{ℕ, List, codes}
use Rattle.gd_system.specs.Names.{route_fault_name}
use Rattle.gd_system.specs.declared.RouteFault.{RouteFault}
use Rattle.gd_system.specs.declared.RouteFault.TheVariants as route
use Rattle.gd_machine.specs.declared.call.Call.{Call}
use Rattle.gd_machine.specs.declared.call.Call.TheVariants as call
use Rattle.gd_machine.specs.declared.refusal.Refusal.{Refusal}
use Rattle.gd_machine.specs.declared.refusal.Refusal.TheVariants as refusal

abbrev pub call_name : Call → List ℕ
call_name call.Nominate = codes "nominate"
call_name call.Respond = codes "respond"
call_name call.Post = codes "post"
call_name call.Freeze = codes "freeze"
call_name call.Settle = codes "settle"
call_name call.Publish = codes "publish"
call_name call.Declare = codes "declare"
call_name call.Waive = codes "waive"
call_name call.Skip = codes "skip"

abbrev pub refusal_name : Refusal → List ℕ
refusal_name refusal.DayClosed = codes "DayClosed"
refusal_name refusal.UnknownContract = codes "UnknownContract"
refusal_name refusal.NotShipper = codes "NotShipper"
refusal_name (refusal.Route fault) = route_fault_name fault
refusal_name refusal.OverContract = codes "OverContract"
refusal_name refusal.TooManyLines = codes "TooManyLines"
refusal_name refusal.TooManyEvents = codes "TooManyEvents"
refusal_name refusal.AllSettled = codes "AllSettled"
refusal_name refusal.Frozen = codes "Frozen"
refusal_name refusal.UnknownLine = codes "UnknownLine"
refusal_name refusal.NotOperator = codes "NotOperator"
refusal_name refusal.UnknownElement = codes "UnknownElement"
refusal_name refusal.IsPool = codes "IsPool"
refusal_name refusal.TooEarly = codes "TooEarly"
refusal_name refusal.NotFrozen = codes "NotFrozen"
refusal_name (refusal.StaleRound round) = codes "StaleRound"
refusal_name refusal.OtherQuestion = codes "OtherQuestion"
refusal_name (refusal.NoCutProof fault) = codes "NoCutProof"
refusal_name refusal.NoCut = codes "NoCut"
refusal_name refusal.OutOfMemory = codes "OutOfMemory"
refusal_name refusal.BoardTaken = codes "BoardTaken"

-- a waiver asks for a declared cut before it asks for the line
abbrev pub unknown_line : Call → ℕ
unknown_line call.Waive = 4
unknown_line c = 3

-- how many refusals come before that of a full history, and one
abbrev pub too_many_events : Call → ℕ
too_many_events call.Nominate = 10
too_many_events call.Respond = 5
too_many_events call.Post = 5
too_many_events call.Waive = 5
too_many_events c = 4

abbrev pub route_number : RouteFault → ℕ
route_number route.UnknownEnd = 4
route_number route.WrongEnd = 5
route_number route.SameEnd = 6
route_number r = 7

-- the number of a refusal in the order of its call's refusals, from 1
abbrev pub refusal_number : Call → Refusal → ℕ
refusal_number c refusal.DayClosed = 1
refusal_number c refusal.UnknownContract = 2
refusal_number c refusal.NotShipper = 3
refusal_number c (refusal.Route fault) = route_number fault
refusal_number c refusal.OverContract = 8
refusal_number c refusal.TooManyLines = 9
refusal_number c refusal.TooManyEvents = too_many_events c
refusal_number c refusal.AllSettled = 1
refusal_number c refusal.Frozen = 2
refusal_number c refusal.UnknownLine = unknown_line c
refusal_number c refusal.NotOperator = 4
refusal_number c refusal.UnknownElement = 3
refusal_number c refusal.IsPool = 4
refusal_number c refusal.TooEarly = 3
refusal_number c refusal.NotFrozen = 1
refusal_number c (refusal.StaleRound round) = 2
refusal_number c refusal.OtherQuestion = 3
refusal_number c (refusal.NoCutProof fault) = 3
refusal_number c refusal.NoCut = 3
refusal_number c refusal.OutOfMemory = 5
refusal_number c refusal.BoardTaken = 6
