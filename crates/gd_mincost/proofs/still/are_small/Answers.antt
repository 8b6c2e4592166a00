use Rattle.std.proofs.Common.{◌^◌, map, refl, sym, ◌∙◌, subst, IsTrue, below_more}
use Rattle.std.specs.Prelude.{pos}
use Rattle.gd_mincost.specs.Settling.{potential}
use Rattle.gd_mincost.proofs.PotentialTests.{read_potential}
use Rattle.gd_mincost.proofs.still.are_small.Goals as goal

pub loop-potential-preserved : goal.loop-potential-preserved
loop-potential-preserved g c =
    below_more (λ node. IsTrue (g.C.Cost.within (pos (2 ^ 39)) (potential g.C.Cost.scale (map g.C.Cost.meaning c.args.potentials.now) node))) c.loop-potential.potential-index c.loop-potential.invariant
    (subst (λ y. IsTrue (g.C.Cost.within (pos (2 ^ 39)) y))
    (read_potential g.C.Cost.scale g.C.Cost.within g.C.Cost.meaning c.args.potentials.now c.loop-potential.potential-index c.loop-potential.potential-index c.potential-item.result refl c.loop-potential-test.true c.potential-item.is)
    (sym c.fits.ensures ∙ c.if-not-fits.false))
