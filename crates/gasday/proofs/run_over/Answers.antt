use Rattle.gasday.proofs.Writing.{told}
use Rattle.gasday.proofs.run_over.Goals as goal

pub returns : goal.returns
returns g c = told _ c.answered-answer.result.answer _ _ _ c.answered-answer.ensures c.write_answer-status.ensures
