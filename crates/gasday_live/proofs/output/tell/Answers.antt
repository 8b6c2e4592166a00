use Rattle.gasday_live.proofs.ToldRows.{told, untold, unflushed}
use Rattle.gasday_part.specs.Answers.{one}
use Rattle.gasday_live.proofs.output.tell.Goals as goal

pub returns-then-write_answer-ne0-clause-untold : goal.returns-then-write_answer-ne0-clause-untold
returns-then-write_answer-ne0-clause-untold g c is = untold _ _ _ c.args.row (c.write_answer.ensures (one c.args.row 0) c.of_one.ensures) c.if-write_answer-ne0.true

pub returns-clause-told : goal.returns-clause-told
returns-clause-told g c is = told _ _ _ _ c.args.row (c.write_answer.ensures (one c.args.row 0) c.of_one.ensures) c.if-write_answer-ne0.false c.flush.ensures.bytes

pub returns-clause-untold : goal.returns-clause-untold
returns-clause-untold g c is = unflushed _ _ _ _ c.args.row (c.write_answer.ensures (one c.args.row 0) c.of_one.ensures) c.if-write_answer-ne0.false c.flush.ensures.bytes
