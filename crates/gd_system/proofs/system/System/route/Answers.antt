use Rattle.std.proofs.Common.{◌≡◌, sym, ap, subst, ◌∙◌, length, Ok, Err, arith}
use Rattle.std.proofs.lemmas.Grind.{common_steps}
use Rattle.gd_tree.specs.Grown.{route_of}
use Rattle.gd_system.specs.Pipeline.{Pipeline}
use Rattle.gd_system.specs.Route.{ends_of}
use Rattle.gd_system.specs.Known.{IsSystem}
use Rattle.gd_system.specs.SystemInside.{pipeline_of}
use Rattle.gd_system.specs.declared.RouteFault.TheVariants.{NoRoute}
use Rattle.gd_system.proofs.NamedEnds.{told_parted, told_are, found_route, some_route}
use Rattle.gd_system.proofs.system.System.route.Goals as goal

pub returns-in_err-ends-clause-none : goal.returns-in_err-ends-clause-none
returns-in_err-ends-clause-none c = λ h.
    let told : ends_of c.args.self.now c.args.origin c.args.dest ≡ Err NoRoute = grind (arith, common_steps, h) in
    told_parted c.args.self.now (subst IsSystem c.self.view_is c.self.invariant) c.args.origin c.args.dest told

pub unreachable-requires : goal.unreachable-requires
unreachable-requires c =
    let p = pipeline_of c.self.inside in
    let ends = c.in_ok-ends.ends in
    let told : ends_of p c.args.origin c.args.dest ≡ Ok ends = ap (λ (x : Pipeline). ends_of x c.args.origin c.args.dest) c.self.view_is ∙ sym c.in_ok-ends.ensures.is in
    let some = some_route p c.self.invariant ends (told_are p c.self.invariant c.args.origin c.args.dest ends told) in
    let none = rw c.in-None.is at c.in_ok-found.ensures in
    none _ some

pub returns-clause-found : goal.returns-clause-found
returns-clause-found c =
    let now = c.args.self.now in
    let ends = c.in_ok-ends.ends in
    let told : ends_of now c.args.origin c.args.dest ≡ Ok ends = sym c.in_ok-ends.ensures.is in
    let is = (rw c.in-Some.is at c.in_ok-found.ensures).0 in
    found_route now (subst IsSystem c.self.view_is c.self.invariant) c.args.origin c.args.dest ends told c.in-Some.segments.items
    (is ∙ ap (λ (x : Pipeline). route_of x.tree (length x.tree) ends.origin_place.0 ends.dest_place.0) c.self.view_is)
