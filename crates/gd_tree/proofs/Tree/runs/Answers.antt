use Rattle.std.proofs.Common.{◌≡◌, arith, length, refl, sym, ◌∙◌, not, true, false, Bool, IsTrue}
use Rattle.gd_tree.specs.Grown.{route_of, has_route}
use Rattle.gd_tree.proofs.Directions.{routes}
use Rattle.gd_tree.proofs.Lifts.{step_same, step_none, same_place}
use Rattle.gd_tree.proofs.Tree.runs.Goals as goal

not_along : (b : Bool) → not b ≡ true → b ≡ false
not_along true e = sym e
not_along false e = refl

is_along : (b : Bool) → not b ≡ false → IsTrue b
is_along true e = refl
is_along false e = cc

pub returns-then-not-step-clause-is : goal.returns-then-not-step-clause-is
returns-then-not-step-clause-is c =
    let i = c.loop-step.invariant in
    sym (step_none c.args.self.now c.loop-step.a c.loop-step.b c.in-Some.step c.step.ensures.grown i.a_known i.b_known c.in-Some.ensures.next (not_along c.in-Some.step.along c.if-not-step.true)) ∙ i.same

pub returns-then-not-step-clause-exists : goal.returns-then-not-step-clause-exists
returns-then-not-step-clause-exists c =
    let elements = c.args.self.now in
    let none : false ≡ has_route elements (length elements) c.args.from c.args.to = returns-then-not-step-clause-is c in (
      (λ e. cc),
      λ found. let some = ((routes elements (length elements) c.args.from c.args.to c.step.ensures.grown c.requires.from_known c.requires.to_known).1 found.0 found.1).0 in let no : false ≡ true = none ∙ some in cc,
    )

pub loop-step-preserved : goal.loop-step-preserved
loop-step-preserved c =
    let i = c.loop-step.invariant in
    let next = c.in-Some.ensures.next in
    let up = c.lift_up-a-in-Some.ensures in
    let down = c.lift_down-b-in-Some.ensures in
    let from_known = next.from_known in
    let to_known = next.to_known in
    record {
      a_known = omega (arith, up.below, from_known);
      b_known = omega (arith, down.below, to_known);
      same = down.same ∙ up.same ∙ step_same c.args.self.now c.loop-step.a c.loop-step.b c.in-Some.step c.step.ensures.grown i.a_known i.b_known next (is_along c.in-Some.step.along c.if-not-step.false) ∙ i.same;
    }

pub returns-clause-is : goal.returns-clause-is
returns-clause-is c =
    let i = c.loop-step.invariant in
    sym (same_place c.args.self.now c.loop-step.a c.loop-step.b c.in_default.ensures.next i.b_known) ∙ i.same

pub returns-clause-exists : goal.returns-clause-exists
returns-clause-exists c =
    let elements = c.args.self.now in
    let some : true ≡ has_route elements (length elements) c.args.from c.args.to = returns-clause-is c in
    let made = (routes elements (length elements) c.args.from c.args.to c.step.ensures.grown c.requires.from_known c.requires.to_known).0 (sym some) in
    ((λ _. (route_of elements (length elements) c.args.from c.args.to, made)), λ _. refl)
