use Rattle.gd_network.proofs.StepRooms.{room_back, room_along}
use Rattle.gd_network.proofs.walks.Step.room.Goals as goal

pub returns-then-self : goal.returns-then-self
returns-then-self c = room_back _ c.args.network.now.arcs c.args.flow.now c.args.self c.arc-arc.result c.known.ensures.sound c.requires.near c.requires.arc c.arc-arc.ensures c.if-self.true

pub returns-else-self : goal.returns-else-self
returns-else-self c = room_along _ c.args.network.now.arcs c.args.flow.now c.args.self c.arc-arc.result c.known.ensures.sound c.requires.near c.requires.arc c.arc-arc.ensures c.if-self.false
