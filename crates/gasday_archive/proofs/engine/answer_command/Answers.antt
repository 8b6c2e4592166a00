use Rattle.gasday_part.specs.Answers.{AnswersBytes}
use Rattle.gasday_archive.proofs.Telling.{alone}
use Rattle.gasday_archive.proofs.engine.answer_command.Goals as goal

pub returns : goal.returns
returns g c = alone (AnswersBytes c.args.command c.args.text.now) c.unopened.result.archive c.answer_of.result c.unopened.result.answer c.unopened.ensures.archive c.unopened.ensures.answer c.answer_of.ensures
