use Rattle.std.proofs.Common.{◌≡◌, ◌+◌, ◌<◌, ◌≤◌, length, get_or, false, refl, sym, ◌∙◌, ap, subst, arith}
use Rattle.gd_system.specs.Pipeline.{Pipeline}
use Rattle.gd_system.specs.Known.{IsSystem}
use Rattle.gd_question.specs.Posing.{Posed}
use Rattle.gd_network.specs.Flow.{IsSideOf}
use Rattle.gd_certificate.specs.Cutting.{Members, side_of}
use Rattle.gd_flow.proofs.Sides.{side_is}
use Rattle.gd_flow.proofs.cut.cut_of.Goals as goal

pub returns-clause-side : goal.returns-clause-side
returns-clause-side c =
    let q = c.args.network.now.question in
    let p = q.pipeline in
    let marks = c.args.marks.now in
    let system : c.system-system.result.now ≡ p = c.system-system.ensures ∙ ap (λ (x : Posed). x.pipeline) c.question-question.ensures in
    let known : IsSystem p = subst IsSystem system c.known-2.ensures.known in
    let places : c.place_count-places.result ≡ length p.tree + 1 = c.place_count-places.ensures ∙ ap (λ (x : Pipeline). length x.places) system ∙ known.placed in
    let points : c.point_count-points.result ≡ length p.points = c.point_count-points.ensures ∙ ap (λ (x : Pipeline). length x.points) system in
    let pools : c.pool_count-pools.result ≡ length p.pools = c.pool_count-pools.ensures ∙ ap (λ (x : Pipeline). length x.pools) system in
    let all = subst (λ (x : Posed). length x.asked.elements ≤ length x.pipeline.tree + length x.pipeline.points + length x.pipeline.pools) c.question-question.ensures c.elements_are_named.ensures in
    let first = c.in_ok-marks_from.ensures in
    let second = c.in_ok-marks_from-2.ensures in
    let third = c.in_ok-marks_from-3.ensures in
    let cut : Members = record { places = c.in_ok-marks_from.field-0.items; points = c.in_ok-marks_from-2.field-0.items; pools = c.in_ok-marks_from-3.field-0.items } in
    subst (λ (x : Members). IsSideOf q.asked (λ v. get_or marks v false) (side_of p x)) (sym c.of.ensures)
    (side_is p marks cut (length q.asked.elements)
    (λ k h. first.entries k (subst (λ m. k < m) (sym places) h) ∙ ap (λ v. get_or marks v false) (omega arith))
    (second.size ∙ points)
    (λ k h. second.entries k (subst (λ m. k < m) (sym points) h) ∙ ap (λ m. get_or marks (m + k) false) places)
    (λ k h. third.entries k (subst (λ m. k < m) (sym pools) h) ∙ ap (λ m. get_or marks (m + c.point_count-points.result + k) false) places ∙ ap (λ m. get_or marks (length p.tree + 1 + m + k) false) points)
    all q.asked refl (c.elements_bring.ensures p q.asked c.known.ensures.placed))
