use Rattle.std.proofs.Common.{Bool, sym, ap, ◌∙◌, Ok, Err}
use Rattle.std.specs.Prelude.{if◌then◌else◌}
use Rattle.gd_rules.specs.Question.{place_of}
use Rattle.gd_system.specs.Route.{ends_at}
use Rattle.gd_system.specs.SystemInside.{pipeline_of}
use Rattle.gd_system.specs.declared.RouteFault.TheVariants.{NoRoute}
use Rattle.gd_system.proofs.NamedEnds.{ends_tested, ends_are}
use Rattle.gd_system.proofs.system.System.ends_between.Goals as goal

pub returns-then-not-runs-clause-is : goal.returns-then-not-runs-clause-is
returns-then-not-runs-clause-is c =
    let told = ends_tested (pipeline_of c.self.inside) c.args.self.now c.args.origin.0 c.args.dest.0 c.part-from.result c.part-to.result c.place-origin_place.result.0 c.place-dest_place.result.0 c.runs.result c.self.view_is
    c.part-from.ensures c.part-to.ensures (sym c.is_segment.ensures ∙ c.if-is_segment.false) (sym c.is_segment-else-is_segment.ensures ∙ c.if-is_segment-2.false)
    (sym c.is_delivery.ensures ∙ c.if-is_delivery.false) (sym c.is_receipt.ensures ∙ c.if-is_receipt.false) c.if-origin-dest.false c.place-origin_place.ensures c.place-dest_place.ensures c.runs.ensures.is in
    let choose = λ (v : Bool). (if v then Ok (ends_at c.args.self.now c.args.origin.0 c.args.dest.0) else Err NoRoute) in
    sym (told ∙ ap choose c.if-not-runs.true)

pub returns-clause-is : goal.returns-clause-is
returns-clause-is c =
    let told = ends_tested (pipeline_of c.self.inside) c.args.self.now c.args.origin.0 c.args.dest.0 c.part-from.result c.part-to.result c.place-origin_place.result.0 c.place-dest_place.result.0 c.runs.result c.self.view_is
    c.part-from.ensures c.part-to.ensures (sym c.is_segment.ensures ∙ c.if-is_segment.false) (sym c.is_segment-else-is_segment.ensures ∙ c.if-is_segment-2.false)
    (sym c.is_delivery.ensures ∙ c.if-is_delivery.false) (sym c.is_receipt.ensures ∙ c.if-is_receipt.false) c.if-origin-dest.false c.place-origin_place.ensures c.place-dest_place.ensures c.runs.ensures.is in
    let choose = λ (v : Bool). (if v then Ok (ends_at c.args.self.now c.args.origin.0 c.args.dest.0) else Err NoRoute) in
    let ends = ends_are c.args.self.now c.args.origin c.args.dest c.place-origin_place.result c.place-dest_place.result (c.place-origin_place.ensures ∙ ap place_of c.part-from.ensures) (c.place-dest_place.ensures ∙ ap place_of c.part-to.ensures) in
    ap Ok ends ∙ sym (told ∙ ap choose c.if-not-runs.false)
