use Rattle.std.proofs.Common.{◌<◌, ◌++◌, ◌∷◌, [], sym, ap, subst, ◌∙◌, length, List, ℕ}
use Rattle.gd_system.specs.BuilderInside.{pipeline_of}
use Rattle.gd_system.specs.Pipeline.{same_name}
use Rattle.gd_system.proofs.Names.{new_pool}
use Rattle.gd_system.proofs.Growth.{pool_kept}
use Rattle.std.specs.Map.{lookup}
use Rattle.gd_system.specs.declared.part.Pool.{Pool}
use Rattle.gd_system.proofs.builder.SystemBuilder.pool.Goals as goal

pub push-requires-clause-new : goal.push-requires-clause-new
push-requires-clause-new c =
    let new = new_pool c.args.self.now c.args.name c.in_ok-at.ensures.new in
    ap (lookup (same_name c.args.name)) c.reserve.ensures.entries ∙ ap (λ p. lookup (same_name c.args.name) p.pools) c.self.view_is ∙ new

pub invariant_of-self-2 : goal.invariant_of-self-2
invariant_of-self-2 c =
    let p = pipeline_of c.self.inside in
    let e : List ℕ × Pool = (c.args.name, record { place = record { 0 = c.in_ok-at.at }; operator = c.args.operator }) in
    let few : length p.pools < 256 = subst (λ x. length x.pools < 256) (sym c.self.view_is) c.in_ok-at.ensures.few in
    let within : c.in_ok-at.at < length p.places = subst (λ x. c.in_ok-at.at < length x.places) (sym c.self.view_is) c.in_ok-at.ensures.within in
    pool_kept p c.push.new.self.entries e c.self.invariant few within (c.push.ensures.last ∙ ap (λ l. l ++ e ∷ []) c.reserve.ensures.entries)
