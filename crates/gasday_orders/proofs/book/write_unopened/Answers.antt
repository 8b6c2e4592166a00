use Rattle.gasday_orders.proofs.Files.{told_unopened}
use Rattle.gasday_orders.proofs.book.write_unopened.Goals as goal

pub returns-clause-told : goal.returns-clause-told
returns-clause-told g c = told_unopened _ _ _ c.args.error.now c.unopened_row.result c.unopened_row.ensures c.of_one-answer.result c.of_one-answer.ensures c.write_answer-status.ensures
