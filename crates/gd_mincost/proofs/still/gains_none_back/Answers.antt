use Rattle.std.proofs.Common.{length, map, sym, ap, ◌∙◌, subst, IsTrue}
use Rattle.std.specs.Prelude.{pos}
use Rattle.gd_network.specs.Arcs.{from_at, to_at}
use Rattle.gd_mincost.specs.Settling.{potential}
use Rattle.gd_mincost.proofs.Links.{fits_large}
use Rattle.gd_mincost.proofs.PotentialTests.{from_is, to_is, in_nodes, at_most_same, turned}
use Rattle.gd_mincost.proofs.still.gains_none_back.Goals as goal

pub raises_none-requires-clause-from : goal.raises_none-requires-clause-from
raises_none-requires-clause-from g c =
    in_nodes c.args.network.now.arcs c.args.number (length c.args.potentials.now) to_at c.arc-arc.result.to (to_is c.args.network.now.arcs c.args.number c.arc-arc.result c.arc-arc.ensures)
    c.requires.nodes (c.known.ensures.sound.to c.args.number c.requires.arc)

pub raises_none-requires-clause-to : goal.raises_none-requires-clause-to
raises_none-requires-clause-to g c =
    in_nodes c.args.network.now.arcs c.args.number (length c.args.potentials.now) from_at c.arc-arc.result.from (from_is c.args.network.now.arcs c.args.number c.arc-arc.result c.arc-arc.ensures)
    c.requires.nodes (c.known.ensures.sound.from c.args.number c.requires.arc)

pub raises_none-requires-clause-gain : goal.raises_none-requires-clause-gain
raises_none-requires-clause-gain g c =
    let b = g.met.C.Cost.bounded in
    fits_large g.C.Cost.scale g.C.Cost.within b (g.C.Cost.meaning c.sub-turned.result)
    (subst (λ x. IsTrue (g.C.Cost.within (pos 16) x)) (sym (turned g.C.Cost.scale g.met.C.Cost.lawful (g.C.Cost.meaning c.zero.result) (g.C.Cost.meaning c.gain_of-gain.result) (g.C.Cost.meaning c.sub-turned.result) c.zero.ensures c.sub-turned.ensures)) (b.minus (pos 16) (g.C.Cost.meaning c.gain_of-gain.result) c.gain_of-gain.ensures.small))

pub returns : goal.returns
returns g c = λ is gain are.
    let s = g.C.Cost.scale in
    let n = c.args.network.now.arcs in
    let k = c.args.number in
    let at = potential s (map g.C.Cost.meaning c.args.potentials.now) in
    at_most_same s _ _ _ _ _ _
    (ap at (to_is n k c.arc-arc.result c.arc-arc.ensures))
    (turned s g.met.C.Cost.lawful (g.C.Cost.meaning c.zero.result) (g.C.Cost.meaning c.gain_of-gain.result) (g.C.Cost.meaning c.sub-turned.result) c.zero.ensures c.sub-turned.ensures ∙ ap s.minus (c.gain_of-gain.ensures.is gain are))
    (ap at (from_is n k c.arc-arc.result c.arc-arc.ensures))
    (c.raises_none.ensures is)
