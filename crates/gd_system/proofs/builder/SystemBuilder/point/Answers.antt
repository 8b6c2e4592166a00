use Rattle.std.proofs.Common.{◌<◌, ◌++◌, ◌∷◌, [], sym, ap, subst, ◌∙◌, length, List, ℕ}
use Rattle.gd_system.specs.BuilderInside.{pipeline_of}
use Rattle.gd_system.specs.Pipeline.{same_name}
use Rattle.gd_system.proofs.Names.{new_point}
use Rattle.gd_system.proofs.Growth.{point_kept}
use Rattle.std.specs.Map.{lookup}
use Rattle.gd_system.specs.declared.part.Point.{Point}
use Rattle.gd_system.proofs.builder.SystemBuilder.point.Goals as goal

pub push-requires-clause-new : goal.push-requires-clause-new
push-requires-clause-new c =
    let new = new_point c.args.self.now c.args.name c.in_ok-at.ensures.new in
    ap (lookup (same_name c.args.name)) c.reserve.ensures.entries ∙ ap (λ p. lookup (same_name c.args.name) p.points) c.self.view_is ∙ new

pub invariant_of-self-2 : goal.invariant_of-self-2
invariant_of-self-2 c =
    let p = pipeline_of c.self.inside in
    let e : List ℕ × Point = (c.args.name, record { kind = c.args.kind; place = record { 0 = c.in_ok-at.at }; operator = c.args.operator; capacity = c.args.capacity }) in
    let few : length p.points < 4096 = subst (λ x. length x.points < 4096) (sym c.self.view_is) c.in_ok-at.ensures.few in
    let within : c.in_ok-at.at < length p.places = subst (λ x. c.in_ok-at.at < length x.places) (sym c.self.view_is) c.in_ok-at.ensures.within in
    point_kept p c.push.new.self.entries e c.self.invariant few within (c.push.ensures.last ∙ ap (λ l. l ++ e ∷ []) c.reserve.ensures.entries)
