use Rattle.std.proofs.Common.{ℕ, ◌+◌, List, length, map, sym, ◌∙◌, subst}
use Rattle.gd_mincost.specs.ClosedWalks.{AreShown}
use Rattle.gd_mincost.specs.Settling.{IsSettled}
use Rattle.std.proofs.lemmas.List.{length-map}
use Rattle.std.proofs.Common.{ap}
use Rattle.gd_mincost.proofs.LabelPotentials.{is_settled, written}
use Rattle.gd_mincost.proofs.PotentialTests.{settled_by, feasible_parts}
use Rattle.gd_mincost.proofs.best.settle_from.Goals as goal

pub returns-clause-settled : goal.returns-clause-settled
returns-clause-settled g c =
    let s = g.C.Cost.scale in
    let f = g.C.Cost.meaning in
    let unit : ℕ → ℕ → g.C.Cost.Meaning = λ class tenth. f (g.C.ByClass.at class tenth) in
    let q = c.into_parts-network.result.0.question.asked in
    let n = c.into_parts-network.result.0.arcs in
    let labels : List g.C.Cost.Meaning = map f c.in_ok-potentials.potentials.items in
    let gains = c.in_ok-gains.gains.items in
    let flow = c.rise.new.flow in
    let back = c.of.ensures ∙ written flow c.into_amounts-amounts.result.items c.into_amounts-amounts.result.len (c.rise.auto.flow ∙ c.deref_mut.ensures.len) in
    subst (λ xs. IsSettled s g.C.Cost.within unit q n xs labels) (sym back)
    (is_settled s g.C.Cost.within unit q n flow (map f gains) labels c.in_ok-potentials.ensures.feasible c.in_ok-gains.ensures.each
    (subst (λ (xs : List g.row.C.Denot). AreShown s g.C.Cost.within (length q.elements + 1) n flow (map f xs) labels) c.deref-2.ensures.value c.in_ok-potentials.ensures.shown))

pub returns-then-show_best-clause-settled : goal.returns-then-show_best-clause-settled
returns-then-show_best-clause-settled g c =
    let s = g.C.Cost.scale in
    let f = g.C.Cost.meaning in
    let unit : ℕ → ℕ → g.C.Cost.Meaning = λ class tenth. f (g.C.ByClass.at class tenth) in
    let parts = c.into_parts-network.result in
    let told = c.into_parts-network.ensures in
    settled_by s g.C.Cost.within unit parts.0.question.asked parts.0.arcs parts.1 c.amounts.result.now (map f c.args.proposed.items) (map f c.deref.result.now)
    c.amounts.ensures (ap (map f) c.deref.ensures.value)
    (feasible_parts c.args.feasible.arcs parts.0.arcs c.args.feasible.flow parts.1 told.arcs told.flow (record { size = c.known.ensures.size; balances = c.known.ensures.balances; bounds = c.known.ensures.within }))
    (length-map c.deref.result.now f ∙ c.show_best.ensures.nodes c.if-show_best.true) (c.show_best.ensures.small c.if-show_best.true) (c.show_best.ensures.still c.if-show_best.true)
