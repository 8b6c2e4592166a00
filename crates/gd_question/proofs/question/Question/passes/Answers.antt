use Rattle.std.proofs.Common.{rules, ◌<◌, ◌^◌, ap, sym, ◌∙◌, arith, List, ℕ}
use Rattle.std.specs.Prelude.{◌==◌}
use Rattle.std.specs.List.{count_by}
use Rattle.gd_question.proofs.QuestionInside.{route_is, element_count_is}
use Rattle.gd_question.proofs.Limits.{length-elements}
use Rattle.gd_question.proofs.question.Question.passes.Goals as goal

pub overflow_cast-segment : goal.overflow_cast-segment
overflow_cast-segment c =
    let q = c.self.inside in
    let parts = length-elements q.system in
    let count = element_count_is q c.args.self.now c.self.view_is in
    let one = c.known.ensures.known.few_segments in
    let two = c.known.ensures.known.few_points in
    let three = c.known.ensures.known.few_pools in
    let few : c.args.segment.0 < 2 ^ 32 = omega (arith, parts, count, one, two, three, c.requires.few) in
    search rules

pub returns : goal.returns
returns c =
    let q = c.self.inside in
    let route = route_is q c.args.self.now c.self.view_is c.args.at c.index.result.now c.requires.known c.index.ensures in
    let passed = rw c.tree-tree.ensures at c.passes.ensures in
    passed ∙ ap (λ (r : List ℕ). count_by (λ k. k == c.args.segment.0) r) (sym route)
