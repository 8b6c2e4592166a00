use Rattle.std.proofs.Common.{◌≡◌, ◌<◌, ◌++◌, ◌∷◌, [], ◌∙◌, sym, ap, subst, arith, length, false}
use Rattle.std.proofs.lemmas.Grind.{common_steps}
use Rattle.std.specs.Map.{keys_of}
use Rattle.gd_table.specs.Table.{keys}
use Rattle.gd_system.specs.BuilderInside.{pipeline_of}
use Rattle.gd_system.specs.Building.{entered, checked_segment, known}
use Rattle.gd_system.proofs.Growth.{segment_kept, pushed, entered_new, length_push, passes_new}
use Rattle.gd_system.proofs.builder.SystemBuilder.segment.Goals as goal

pub invariant_of-self-2 : goal.invariant_of-self-2
invariant_of-self-2 c =
    let p = pipeline_of c.self.inside in
    let passes = ap (λ x. checked_segment x c.args.name c.args.from c.args.to) c.self.view_is ∙ sym c.check_segment.ensures.is ∙ c.in_ok-f.was in
    let few : length p.tree < 4095 = subst (λ x. length x.tree < 4095) (sym c.self.view_is) c.in_ok-f.ensures.few in
    let new : known p.segments c.args.name ≡ false = passes_new p c.args.name c.args.from c.args.to _ passes in
    let places : keys c.enter-2.new.names ≡ entered (entered p.places c.args.from) c.args.to = c.enter-2.ensures.keys ∙ ap (λ l. entered l c.args.to) (c.enter.ensures.keys ∙ ap (λ es. entered (keys_of es) c.args.from) c.reserve-2.ensures.entries) in
    let segments : keys c.enter-3.new.names ≡ p.segments ++ c.args.name ∷ [] = c.enter-3.ensures.keys ∙ ap (λ es. entered (keys_of es) c.args.name) c.reserve.ensures.entries ∙ entered_new p.segments c.args.name new in
    let tree = pushed c.push.result c.push.new.self c.self.inside.tree _ c.push.ensures (grind (arith, common_steps, c.in_ok-push.was)) in
    segment_kept p c.args.name c.args.from c.args.to _ (keys c.enter-2.new.names) (keys c.enter-3.new.names) c.push.new.self c.self.invariant passes few places
    (ap length segments ∙ length_push p.segments c.args.name) (ap length tree ∙ length_push p.tree _)
