use Rattle.std.proofs.Common.{◌≡◌, ℕ, ◌+◌, ◌≤◌, length, ap, sym, ◌∙◌, arith}
use Rattle.std.specs.Prelude.{◌==◌}
use Rattle.std.specs.List.{count_by}
use Rattle.std.proofs.lemmas.Bool.{eq-eqb}
use Rattle.gd_tree.specs.Grown.{route_of}
use Rattle.gd_tree.proofs.Counts.{one_if, step_counts, passed_once}
use Rattle.gd_tree.proofs.Steps.{route_same}
use Rattle.gd_tree.proofs.Tree.passes.Goals as goal

pub returns-then-step-segment : goal.returns-then-step-segment
returns-then-step-segment c =
    let elements = c.args.self.now in
    let p = λ (k : ℕ). k == c.args.segment in
    let most : count_by p (route_of elements (length elements) c.args.from c.args.to) ≤ 1 = passed_once elements (length elements) c.args.from c.args.to c.args.segment in
    let here : one_if (c.in-Some.step.segment == c.args.segment) ≡ 1 = ap one_if (eq-eqb c.in-Some.step.segment c.args.segment c.if-step-segment.true) in
    let step : count_by p (route_of elements (length elements) c.loop-step.a c.loop-step.b) ≡ one_if (c.in-Some.step.segment == c.args.segment) + count_by p (route_of elements (length elements) c.in-Some.step.from c.in-Some.step.to) =
    step_counts elements c.loop-step.a c.loop-step.b c.in-Some.step p c.in-Some.ensures.next in
    let left : count_by p (route_of elements (length elements) c.loop-step.a c.loop-step.b) ≡ count_by p (route_of elements (length elements) c.args.from c.args.to) = c.loop-step.invariant.left in
    omega arith

pub returns : goal.returns
returns c =
    let elements = c.args.self.now in
    let i = c.loop-step.invariant in
    sym (ap (count_by (λ k. k == c.args.segment)) (route_same elements (length elements) c.loop-step.a c.loop-step.b c.in_default.ensures.next i.b_known)) ∙ i.left
