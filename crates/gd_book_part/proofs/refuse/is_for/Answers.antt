use Rattle.std.proofs.Common.{ap, ◌∙◌}
use Rattle.gd_question.specs.Posing.{Posed}
use Rattle.gd_machine.specs.Same.{same_question}
use Rattle.gd_book_part.proofs.Sameness.{test_is}
use Rattle.gd_book_part.proofs.refuse.is_for.Goals as goal

pub returns : goal.returns
returns c = test_is c.question.result.now c.args.question.now c.same.result c.same.ensures ∙ ap (λ (q : Posed). same_question q c.args.question.now) c.question.ensures
