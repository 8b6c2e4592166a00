use Rattle.std.proofs.Common.{◌+◌, ◌*◌, length, map}
use Rattle.std.specs.Prelude.{List, ℤ}
use Rattle.gd_mincost.specs.Gains.{value}
use Rattle.gd_flow.specs.Feasible.{IsFeasible}
use Rattle.gd_mincost.proofs.Value.{rank_falls, value_fits}
use Rattle.gd_mincost.proofs.best.rise.Goals as goal

pub loop-walks-smaller : goal.loop-walks-smaller
loop-walks-smaller g c =
    let s = g.C.Cost.scale in
    let m = g.met.C.Cost in
    let n = c.args.network.now.arcs in
    let gains = map g.C.Cost.meaning c.args.gains.now in
    let nodes = length c.args.network.now.question.asked.elements + 1 in
    let fits = λ (flow : List ℤ) (h : IsFeasible n flow). value_fits s g.C.Cost.within m.bounded nodes n gains flow c.known.ensures.sound c.requires.gains h.bounds in
    let told = rw c.in_default.is at c.in_ok-labels.ensures.improved in
    rank_falls s g.C.Cost.within g.C.Cost.size g.C.Cost.rank m.ranked (length n * 16000000000) (value s gains n c.loop-walks.flow) (value s gains n c.improve.new.flow)
    (fits c.loop-walks.flow c.loop-walks.invariant) (fits c.improve.new.flow c.in_ok-labels.ensures.feasible) told
