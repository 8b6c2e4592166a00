use Rattle.std.proofs.Common.{ap, ◌∙◌, Some}
use Rattle.gd_system.specs.Pipeline.{element_number}
use Rattle.gd_system.specs.Route.{ends_found}
use Rattle.gd_system.proofs.NamedEnds.{ends_within}
use Rattle.gd_system.proofs.system.System.ends.Goals as goal

pub returns-in-Some-Some-clause-within : goal.returns-in-Some-Some-clause-within
returns-in-Some-Some-clause-within c =
    let p = c.args.self.now in
    ends_within p c.ends_between.ensures.known c.args.origin c.args.dest c.ends_between.result (
    c.ends_between.ensures.is ∙ ap (λ d. ends_found p (Some c.in-Some-Some.origin.0) d) c.in-Some-Some.ensures'.is ∙ ap (λ o. ends_found p o (element_number p c.args.dest)) c.in-Some-Some.ensures.is
    )
