use Rattle.std.proofs.Common.{◌≡◌, ◌<◌, ◌^◌, length, map, IsTrue, subst, sym, ap, arith}
use Rattle.std.specs.Prelude.{pos}
use Rattle.std.proofs.lemmas.List.{length-map}
use Rattle.gd_network.specs.declared.arcs.Arc.{Arc}
use Rattle.gd_network.specs.Arcs.{from_at, to_at}
use Rattle.gd_solver.proofs.PotentialFalls.{is_small, fall_small, read}
use Rattle.gd_solver.proofs.prices.fall.Goals as goal

pub sub-requires-clause-left : goal.sub-requires-clause-left
sub-requires-clause-left g c =
    let f = g.C.Cost.meaning in
    let n = c.args.network.now.arcs in
    let size = c.known.ensures.network.size in
    let inside : c.args.element < length n = omega (arith, size, c.requires.element) in
    let node : c.arc-arc.result.from ≡ from_at n c.args.element = ap (λ (a : Arc). a.from) c.arc-arc.ensures in
    let low : c.arc-arc.result.from < length c.args.potentials.now = let k = c.known.ensures.sound.from c.args.element inside in omega (arith, node, k, c.requires.nodes) in
    let below : c.arc-arc.result.from < length (map f c.args.potentials.now) = subst (λ m. c.arc-arc.result.from < m) (sym (length-map c.args.potentials.now f)) low in
    subst (λ z. IsTrue (g.C.Cost.within (pos (2 ^ 100)) z)) (sym (read f c.args.potentials.now c.arc-arc.result.from c.index-potentials-arc.result g.C.Cost.scale.none below c.index-potentials-arc.is))
    (is_small g.C.Cost.scale g.C.Cost.within g.met.C.Cost.bounded _ (c.requires.small c.arc-arc.result.from low))

pub sub-requires-clause-right : goal.sub-requires-clause-right
sub-requires-clause-right g c =
    let f = g.C.Cost.meaning in
    let n = c.args.network.now.arcs in
    let size = c.known.ensures.network.size in
    let inside : c.args.element < length n = omega (arith, size, c.requires.element) in
    let node : c.arc-arc.result.to ≡ to_at n c.args.element = ap (λ (a : Arc). a.to) c.arc-arc.ensures in
    let low : c.arc-arc.result.to < length c.args.potentials.now = let k = c.known.ensures.sound.to c.args.element inside in omega (arith, node, k, c.requires.nodes) in
    let below : c.arc-arc.result.to < length (map f c.args.potentials.now) = subst (λ m. c.arc-arc.result.to < m) (sym (length-map c.args.potentials.now f)) low in
    subst (λ z. IsTrue (g.C.Cost.within (pos (2 ^ 100)) z)) (sym (read f c.args.potentials.now c.arc-arc.result.to c.index-potentials-arc-2.result g.C.Cost.scale.none below c.index-potentials-arc-2.is))
    (is_small g.C.Cost.scale g.C.Cost.within g.met.C.Cost.bounded _ (c.requires.small c.arc-arc.result.to low))

pub returns-clause-small : goal.returns-clause-small
returns-clause-small g c =
    let f = g.C.Cost.meaning in
    let n = c.args.network.now.arcs in
    let size = c.known.ensures.network.size in
    let inside : c.args.element < length n = omega (arith, size, c.requires.element) in
    let start : c.arc-arc.result.from ≡ from_at n c.args.element = ap (λ (a : Arc). a.from) c.arc-arc.ensures in
    let stop : c.arc-arc.result.to ≡ to_at n c.args.element = ap (λ (a : Arc). a.to) c.arc-arc.ensures in
    let low : c.arc-arc.result.from < length c.args.potentials.now = let k = c.known.ensures.sound.from c.args.element inside in omega (arith, start, k, c.requires.nodes) in
    let high : c.arc-arc.result.to < length c.args.potentials.now = let k = c.known.ensures.sound.to c.args.element inside in omega (arith, stop, k, c.requires.nodes) in
    let below : c.arc-arc.result.from < length (map f c.args.potentials.now) = subst (λ m. c.arc-arc.result.from < m) (sym (length-map c.args.potentials.now f)) low in
    let above : c.arc-arc.result.to < length (map f c.args.potentials.now) = subst (λ m. c.arc-arc.result.to < m) (sym (length-map c.args.potentials.now f)) high in
    let one = read f c.args.potentials.now c.arc-arc.result.from c.index-potentials-arc.result g.C.Cost.scale.none below c.index-potentials-arc.is in
    let other = read f c.args.potentials.now c.arc-arc.result.to c.index-potentials-arc-2.result g.C.Cost.scale.none above c.index-potentials-arc-2.is in
    subst (λ z. IsTrue (g.C.Cost.within (pos (2 ^ 40)) z)) (sym c.sub.ensures)
    (fall_small g.C.Cost.scale g.C.Cost.within g.met.C.Cost.bounded (f c.index-potentials-arc.result) (f c.index-potentials-arc-2.result)
    (subst (λ z. IsTrue (g.C.Cost.within (pos (2 ^ 39)) z)) (sym one) (c.requires.small c.arc-arc.result.from low))
    (subst (λ z. IsTrue (g.C.Cost.within (pos (2 ^ 39)) z)) (sym other) (c.requires.small c.arc-arc.result.to high)))
