use Rattle.gd_network.proofs.StepRooms.{near_within}
use Rattle.gd_network.proofs.rooms.within_is_near.Goals as goal

pub returns : goal.returns
returns c = near_within c.args.network.now.arcs c.args.flow.now c.requires.size c.requires.within
