use Rattle.std.proofs.Common.{◌≡◌, ◌+◌, ◌-◌, ◌<◌, ◌≤◌, length, sym, ap, subst, ◌∙◌, arith}
use Rattle.std.specs.Prelude.{slice_get, Some}
use Rattle.gd_system.specs.Row.{IsRow}
use Rattle.gd_system.specs.SystemInside.{pipeline_of}
use Rattle.gd_system.specs.declared.system.Row.TheVariants as row
use Rattle.gd_system.proofs.Slots.{none_past, segment_row, point_row, pool_row}
use Rattle.gd_system.proofs.system.System.row.Goals as goal

pub returns-then-element-segments : goal.returns-then-element-segments
returns-then-element-segments c =
    let p = pipeline_of c.self.inside in
    let below : c.args.element.0 < length p.tree = omega (arith, c.len-segments.ensures.is) in
    subst (λ x. IsRow x c.args.element.0 row.Segment) c.self.view_is (segment_row p c.self.invariant.named c.args.element.0 below)

pub returns-in-Some : goal.returns-in-Some
returns-in-Some c =
    let p = pipeline_of c.self.inside in
    let above : length p.tree ≤ c.args.element.0 = omega (arith, c.len-segments.ensures.is) in
    let at : slice_get p.points (c.args.element.0 - length p.tree) ≡ Some c.in-Some.entry = ap (λ n. slice_get p.points (c.args.element.0 - n)) (sym c.len-segments.ensures.is) ∙ sym c.in-Some.ensures in
    subst (λ x. IsRow x c.args.element.0 (row.Point c.in-Some.entry.0 c.in-Some.entry.1)) c.self.view_is (point_row p c.self.invariant.named c.args.element.0 c.in-Some.entry.0 c.in-Some.entry.1 above at)

pub returns : goal.returns
returns c =
    let p = pipeline_of c.self.inside in
    let found = c.in-Some-get_index in
    let past : length p.points ≤ c.args.element.0 - c.len-segments.result = none_past p.points _ c.in_default.ensures in
    let above : length p.tree + length p.points ≤ c.args.element.0 = omega (arith, c.len-segments.ensures.is, past) in
    let same : c.args.element.0 - c.len-segments.result - c.len.result ≡ c.args.element.0 - (length p.tree + length p.points) = omega (arith, c.len-segments.ensures.is, c.len.ensures.is) in
    let at : slice_get p.pools (c.args.element.0 - (length p.tree + length p.points)) ≡ Some found.entry = ap (slice_get p.pools) (sym same) ∙ sym found.ensures in
    subst (λ x. IsRow x c.args.element.0 (row.Pool found.entry.0 found.entry.1)) c.self.view_is (pool_row p c.self.invariant.named c.args.element.0 found.entry.0 found.entry.1 above at)
