use Rattle.std.proofs.Common.{arith, refl}
use Rattle.gd_question.proofs.QuestionInside.{unknown_is, is_pool, has_limit, changed_is}
use Rattle.gd_question.proofs.question.Question.set_capacity.Goals as goal

pub returns-then-element-element_count-clause-refused : goal.returns-then-element-element_count-clause-refused
returns-then-element-element_count-clause-refused c =
    (unknown_is c.self.inside c.args.self.now c.self.view_is c.args.element.0 (omega (arith, c.element_count.ensures)), refl)

pub returns-then-element-len-clause-refused : goal.returns-then-element-len-clause-refused
returns-then-element-len-clause-refused c =
    (is_pool c.self.inside c.args.self.now c.self.view_is c.args.element.0 c.self.invariant (omega (arith, c.element_count.ensures)) (omega (arith, c.len.ensures)), refl)

pub returns-clause-done : goal.returns-clause-done
returns-clause-done c =
    changed_is c.self.inside c.args.self.now c.self.view_is c.args.element.0 c.args.capacity c.self.invariant (omega (arith, c.element_count.ensures)) (omega (arith, c.len.ensures))

pub returns-clause-refused : goal.returns-clause-refused
returns-clause-refused c =
    has_limit c.self.inside c.args.self.now c.self.view_is c.args.element.0 c.self.invariant (omega (arith, c.element_count.ensures)) (omega (arith, c.len.ensures))
