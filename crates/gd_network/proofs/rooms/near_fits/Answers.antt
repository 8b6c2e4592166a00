use Rattle.gd_network.proofs.StepRooms.{amounts_fit}
use Rattle.gd_network.proofs.rooms.near_fits.Goals as goal

pub returns : goal.returns
returns c = amounts_fit _ c.args.network.now.arcs c.args.flow.now c.known.ensures.sound c.requires
