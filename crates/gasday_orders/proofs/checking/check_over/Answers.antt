use Rattle.gasday_orders.proofs.Writing.{checked}
use Rattle.gasday_orders.proofs.checking.check_over.Goals as goal

pub returns-clause-told : goal.returns-clause-told
returns-clause-told g c = checked c.args.question.now c.args.answer.now c.check_answer-told.result _ _ _ c.check_answer-told.ensures c.write_rows-status.ensures
