-- The events that stand for the calls of a session.
use Rattle.std.specs.Prelude.{ℕ, List}
use Rattle.gd_machine.specs.declared.event.Event.{Event}
use Rattle.gd_machine.specs.declared.event.Event.TheVariants as event
use Rattle.gd_office_part.specs.declared.call.Call.{Call}
use Rattle.gd_office_part.specs.declared.call.Call.TheVariants as call

-- The event of a call by the party of this name. Who posts a capacity is not told.
abbrev pub event_of : List ℕ → Call → Event
event_of party (call.Nominate moment key quantity) = event.Nominate moment party key quantity
event_of party (call.Respond moment line end quantity) = event.Respond moment party line end quantity
event_of party (call.PostCapacity moment element capacity) = event.PostCapacity moment element capacity
