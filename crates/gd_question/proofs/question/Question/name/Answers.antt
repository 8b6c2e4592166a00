use Rattle.std.proofs.Common.{◌<◌, subst}
use Rattle.gd_question.proofs.QuestionInside.{element_count_is}
use Rattle.gd_question.proofs.question.Question.name.Goals as goal

pub name-requires : goal.name-requires
name-requires c = subst (λ n. c.args.element.0 < n) (element_count_is c.self.inside c.args.self.now c.self.view_is) c.requires
