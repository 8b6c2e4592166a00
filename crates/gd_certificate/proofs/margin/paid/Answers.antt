use Rattle.std.proofs.Common.{◌≡◌, ℕ, ◌+◌, ◌^◌, ◌<◌, length, map, IsTrue, sym, ap, ◌∙◌, subst}
use Rattle.std.specs.Prelude.{pos}
use Rattle.gd_rules.specs.Question.{line, element, place_of}
use Rattle.gd_rules.specs.Tree.{CanSend}
use Rattle.gd_rules.specs.Priced.{price}
use Rattle.gd_certificate.specs.Payments.{origin_price}
use Rattle.gd_certificate.specs.Levels.{level}
use Rattle.gd_certificate.proofs.Paying.{paid_is, ends_fit, route_fits, all_fit, route_large, ends_large}
use Rattle.gd_certificate.proofs.margin.paid.Goals as goal

pub add-requires-clause-left : goal.add-requires-clause-left
add-requires-clause-left g c =
    let f = g.C.Cost.meaning in
    route_large g.C.Cost.scale g.C.Cost.within g.met.C.Cost.bounded (f c.sub.result)
    (route_fits g.C.Cost.scale g.C.Cost.within g.met.C.Cost.bounded (f c.level_at-end.result) (f c.level_at-start.result) (f c.sub.result) c.level_at-end.ensures.small c.level_at-start.ensures.small c.sub.ensures)

pub add-requires-clause-right : goal.add-requires-clause-right
add-requires-clause-right g c =
    let f = g.C.Cost.meaning in
    let known : c.dest-dest.result.0 < length c.args.question.now.asked.elements = subst (λ k. k < length c.args.question.now.asked.elements) (sym c.dest-dest.ensures) (c.known.ensures.lined c.args.line c.requires.known).dest_known in
    let small : IsTrue (g.C.Cost.within (pos (2 ^ 40)) (f c.price_of-2.result)) = ap (g.C.Cost.within (pos (2 ^ 40))) c.price_of-2.ensures ∙ c.requires.ready.small c.dest-dest.result.0 known in
    ends_large g.C.Cost.scale g.C.Cost.within g.met.C.Cost.bounded (f c.add-at_ends.result)
    (ends_fit g.C.Cost.scale g.C.Cost.within g.met.C.Cost.bounded (f c.origin_price-at_origin.result) (f c.price_of-2.result) (f c.add-at_ends.result) c.origin_price-at_origin.ensures.small small c.add-at_ends.ensures)

pub returns-clause-small : goal.returns-clause-small
returns-clause-small g c =
    let f = g.C.Cost.meaning in
    let known : c.dest-dest.result.0 < length c.args.question.now.asked.elements = subst (λ k. k < length c.args.question.now.asked.elements) (sym c.dest-dest.ensures) (c.known.ensures.lined c.args.line c.requires.known).dest_known in
    let small : IsTrue (g.C.Cost.within (pos (2 ^ 40)) (f c.price_of-2.result)) = ap (g.C.Cost.within (pos (2 ^ 40))) c.price_of-2.ensures ∙ c.requires.ready.small c.dest-dest.result.0 known in
    let route = route_fits g.C.Cost.scale g.C.Cost.within g.met.C.Cost.bounded (f c.level_at-end.result) (f c.level_at-start.result) (f c.sub.result) c.level_at-end.ensures.small c.level_at-start.ensures.small c.sub.ensures in
    let ends = ends_fit g.C.Cost.scale g.C.Cost.within g.met.C.Cost.bounded (f c.origin_price-at_origin.result) (f c.price_of-2.result) (f c.add-at_ends.result) c.origin_price-at_origin.ensures.small small c.add-at_ends.ensures in
    all_fit g.C.Cost.scale g.C.Cost.within g.met.C.Cost.bounded (f c.sub.result) (f c.add-at_ends.result) (f c.add.result) route ends c.add.ensures

pub returns-clause-is : goal.returns-clause-is
returns-clause-is g c =
    let s = g.C.Cost.scale in
    let f = g.C.Cost.meaning in
    let q = c.args.question.now.asked in
    let l = line q c.args.line in
    let prices = map f c.args.prices.now in
    let levels = map f c.args.levels.now in
    let p : ℕ → g.C.Cost.Meaning = price s prices in
    let is_line = c.known.ensures.lined c.args.line c.requires.known in
    let part = c.part.ensures ∙ ap (element q) c.origin-origin.ensures in
    let start : f c.level_at-start.result ≡ level s levels (place_of (element q l.origin)) = c.level_at-start.ensures.is ∙ ap (λ e. level s levels (place_of (element q e))) c.origin-origin.ensures in
    let end : f c.level_at-end.result ≡ level s levels (place_of (element q l.dest)) = c.level_at-end.ensures.is ∙ ap (λ e. level s levels (place_of (element q e))) c.dest-dest.ensures in
    let at_origin : f c.origin_price-at_origin.result ≡ origin_price s (element q l.origin) (p l.origin) = c.origin_price-at_origin.ensures.is (subst CanSend (sym part) is_line.sends) ∙ ap (λ x. origin_price s x (f c.price_of.result)) part ∙ ap (origin_price s (element q l.origin)) (c.price_of.ensures ∙ ap p c.origin-origin.ensures) in
    let at_dest : f c.price_of-2.result ≡ p l.dest = c.price_of-2.ensures ∙ ap p c.dest-dest.ensures in
    let route : f c.sub.result ≡ s.plus (level s levels (place_of (element q l.dest))) (s.minus (level s levels (place_of (element q l.origin)))) = c.sub.ensures ∙ ap (λ w. s.plus w (s.minus (f c.level_at-start.result))) end ∙ ap (λ w. s.plus (level s levels (place_of (element q l.dest))) (s.minus w)) start in
    let ends : f c.add-at_ends.result ≡ s.plus (origin_price s (element q l.origin) (p l.origin)) (p l.dest) = c.add-at_ends.ensures ∙ ap (λ w. s.plus w (f c.price_of-2.result)) at_origin ∙ ap (s.plus (origin_price s (element q l.origin) (p l.origin))) at_dest in
    c.add.ensures ∙ ap (λ w. s.plus w (f c.add-at_ends.result)) route ∙ ap (s.plus (s.plus (level s levels (place_of (element q l.dest))) (s.minus (level s levels (place_of (element q l.origin)))))) ends
    ∙ paid_is s g.met.C.Cost.lawful g.C.Cost.within q (length c.args.question.now.pipeline.tree + 1) prices levels c.args.line c.requires.ready.levels is_line
