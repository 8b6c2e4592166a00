use Rattle.std.proofs.Common.{◌≡◌, take}
use Rattle.gd_network.specs.Steps.{least_room}
use Rattle.gd_network.proofs.rooms.least_room.Given as goal

abbrev pub invariant-loop-step : goal.invariant-loop-step
invariant-loop-step l = l.least ≡ least_room l.network.arcs l.flow (take l.step-index l.walk) l.most
