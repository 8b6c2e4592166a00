use Rattle.std.proofs.Common.{◌≤◌, map, subst, arith}
use Rattle.gd_mincost.specs.ClosedWalks.{AreShown}
use Rattle.gd_mincost.proofs.LabelPotentials.{are_shown}
use Rattle.gd_mincost.proofs.best.improve.Goals as goal

pub returns-in-Labels-clause-improved : goal.returns-in-Labels-clause-improved
returns-in-Labels-clause-improved g c =
    let s = g.C.Cost.scale in
    let f = g.C.Cost.meaning in
    let n = c.args.network.now.arcs in
    let flow = c.push_found.new.flow in
    let gains = map f c.args.gains.now in
    let labels = map f c.in-Labels.labels.items in
    let r = c.in_ok-residual.residual in
    let found = rw c.in-Labels.is at c.in_ok-labels.ensures in
    let few : c.node_count.result ≤ 8448 = omega (arith, c.node_count.ensures, c.known.ensures.question.few_elements) in
    subst (λ m. AreShown s g.C.Cost.within m n flow gains labels) c.node_count.ensures
    (are_shown s g.C.Cost.within g.met.C.Cost.bounded c.node_count.result n flow gains r.links.from.items r.links.to.items (map f r.links.gain.items) r.steps.items labels few
    c.in_ok-residual.ensures.sound c.in_ok-residual.ensures.whole found)
