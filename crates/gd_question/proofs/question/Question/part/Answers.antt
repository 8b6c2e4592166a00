use Rattle.std.proofs.Common.{◌<◌, ap, sym, ◌∙◌, length, arith, subst}
use Rattle.std.proofs.lemmas.List.{get_or_read}
use Rattle.gd_system.specs.Pipeline.{elements_of}
use Rattle.gd_system.specs.Route.{element_at}
use Rattle.gd_question.specs.InForce.{with_limit}
use Rattle.gd_question.proofs.QuestionInside.{element_count_is, pool_is, limited_is}
use Rattle.gd_question.proofs.question.Question.part.Goals as goal

pub part-part-requires : goal.part-part-requires
part-part-requires c = subst (λ n. c.args.element.0 < n) (element_count_is c.self.inside c.args.self.now c.self.view_is) c.requires

pub returns-then-element-len : goal.returns-then-element-len
returns-then-element-len c =
    c.part-part.ensures ∙ sym (pool_is c.self.inside c.args.self.now c.self.view_is c.args.element.0 c.self.invariant (omega (arith, c.len.ensures)))

pub returns : goal.returns
returns c =
    let q = c.self.inside in
    let known : c.args.element.0 < length (elements_of q.system) = subst (λ n. c.args.element.0 < n) (element_count_is q c.args.self.now c.self.view_is) c.requires in
    c.with_limit.ensures ∙ ap (λ e. with_limit e c.index.result.now) c.part-part.ensures
    ∙ ap (λ n. with_limit (element_at q.system c.args.element.0) n) (get_or_read q.capacities.items c.args.element.0 c.index.result.now (omega (arith, c.len.ensures)) c.index.ensures 0)
    ∙ sym (limited_is q c.args.self.now c.self.view_is c.args.element.0 (omega (arith, c.len.ensures)) known)
