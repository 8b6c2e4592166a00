use Rattle.std.proofs.Common.{map}
use Rattle.gd_mincost.specs.Settling.{worth}
use Rattle.gd_mincost.specs.Stillness.{GainsNoneAlong}
use Rattle.gd_mincost.proofs.Tenths.{gains_none_along}
use Rattle.gd_mincost.proofs.still.still_along.Goals as goal
use Rattle.gd_mincost.proofs.still.still_along.Goals.{then-not-is_known+else-flow-number+else-not-gains_none_along, else-not-is_known}

pub returns-clause-next : goal.returns-clause-next
returns-clause-next g c = λ later.
    let s = g.C.Cost.scale in
    let q = c.args.network.now.question.asked in
    let n = c.args.network.now.arcs in
    let labels = map g.C.Cost.meaning c.args.potentials.now in
    let unit = worth g.C.Cost.meaning g.C.ByClass.at in
    let none : GainsNoneAlong s unit q n labels c.args.number = elim c.if-not-is_known.branch [
      | then-not-is_known+else-flow-number+else-not-gains_none_along w ↦ w.gains_none_along.ensures w.if-not-gains_none_along.false
      | else-not-is_known w ↦ c.requires.known w.if-not-is_known.false
    ] in
    gains_none_along s g.met.C.Cost.lawful unit g.met.C.ByClass.never_rises q n c.known.ensures.network labels
    c.args.number (c.is_before_tenth.ensures later) none
