use Rattle.std.proofs.Common.{◌≤◌, ◌∙◌, subst, arith}
use Rattle.gd_rules.specs.Question.{line as asked_line}
use Rattle.gd_network.proofs.LineFlows.{low, high, total}
use Rattle.gd_network.proofs.flow.carried.Goals as goal

pub carried_by-requires-clause-low : goal.carried_by-requires-clause-low
carried_by-requires-clause-low c = low c.args.question.now.asked c.args.arcs.now c.args.flow.now c.requires.network c.requires.within c.args.line c.requires.line _ c.element_count.ensures

pub carried_by-requires-clause-high : goal.carried_by-requires-clause-high
carried_by-requires-clause-high c =
    high c.args.question.now.asked c.args.arcs.now c.args.flow.now c.requires.network c.requires.within c.args.line c.requires.line _ c.element_count.ensures
    (subst (λ m. m ≤ 1000000000) (c.get-most.ensures.is ∙ c.ceiling-ceiling.ensures) c.get-most.ensures.bound)

pub unreachable-requires : goal.unreachable-requires
unreachable-requires c =
    let few : (asked_line c.args.question.now.asked c.args.line).ceiling ≤ 1000000000 = subst (λ m. m ≤ 1000000000) (c.get-most.ensures.is ∙ c.ceiling-ceiling.ensures) c.get-most.ensures.bound in
    let most = total c.args.question.now.asked c.args.arcs.now c.args.flow.now c.requires.network c.requires.within c.args.line c.requires.line _ c.element_count.ensures c.carried_by.result c.carried_by.ensures in
    let over = c.in-Err.ensures in
    omega (arith, few, most, over)
