use Rattle.std.proofs.Common.{refl}
use Rattle.gd_mincost.proofs.PotentialTests.{read_potential, potential_fits, at_most_same}
use Rattle.gd_mincost.proofs.still.raises_none.Goals as goal

pub improves-requires-clause-start : goal.improves-requires-clause-start
improves-requires-clause-start g c =
    potential_fits g.C.Cost.scale g.C.Cost.within g.C.Cost.meaning c.args.potentials.now g.met.C.Cost.bounded c.requires.small
    c.args.from c.args.from c.index-potentials-from.result refl c.requires.from c.index-potentials-from.is

pub returns : goal.returns
returns g c = λ _.
    let s = g.C.Cost.scale in
    let f = g.C.Cost.meaning in
    let at = read_potential s g.C.Cost.within f c.args.potentials.now in
    at_most_same s _ _ _ _ _ _
    (at c.args.from c.args.from c.index-potentials-from.result refl c.requires.from c.index-potentials-from.is)
    refl
    (at c.args.to c.args.to c.index-potentials-to.result refl c.requires.to c.index-potentials-to.is)
    (c.improves.ensures c.if-improves.false)
