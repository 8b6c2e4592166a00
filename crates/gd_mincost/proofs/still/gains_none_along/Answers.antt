use Rattle.std.proofs.Common.{length, map, ap}
use Rattle.gd_network.specs.Arcs.{from_at, to_at}
use Rattle.gd_mincost.specs.Settling.{potential}
use Rattle.gd_mincost.proofs.PotentialTests.{from_is, to_is, in_nodes, at_most_same}
use Rattle.gd_mincost.proofs.still.gains_none_along.Goals as goal

pub raises_none-requires-clause-from : goal.raises_none-requires-clause-from
raises_none-requires-clause-from g c =
    in_nodes c.args.network.now.arcs c.args.number (length c.args.potentials.now) from_at c.arc-arc.result.from (from_is c.args.network.now.arcs c.args.number c.arc-arc.result c.arc-arc.ensures)
    c.requires.nodes (c.known.ensures.sound.from c.args.number c.requires.arc)

pub raises_none-requires-clause-to : goal.raises_none-requires-clause-to
raises_none-requires-clause-to g c =
    in_nodes c.args.network.now.arcs c.args.number (length c.args.potentials.now) to_at c.arc-arc.result.to (to_is c.args.network.now.arcs c.args.number c.arc-arc.result c.arc-arc.ensures)
    c.requires.nodes (c.known.ensures.sound.to c.args.number c.requires.arc)

pub returns : goal.returns
returns g c = λ is gain are.
    let s = g.C.Cost.scale in
    let n = c.args.network.now.arcs in
    let k = c.args.number in
    let at = potential s (map g.C.Cost.meaning c.args.potentials.now) in
    at_most_same s _ _ _ _ _ _
    (ap at (from_is n k c.arc-arc.result c.arc-arc.ensures))
    (c.gain_of-gain.ensures.is gain are)
    (ap at (to_is n k c.arc-arc.result c.arc-arc.ensures))
    (c.raises_none.ensures is)
