use Rattle.gasday_archive.proofs.Telling.{alone}
use Rattle.gasday_office.specs.Offices.{AnswersOfficeBytes}
use Rattle.gasday.proofs.answer_slots.Goals as goal

pub returns : goal.returns
returns g c = alone (AnswersOfficeBytes c.args.is_strict c.args.text.now) c.unopened.result.archive c.answer_office.result c.unopened.result.answer c.unopened.ensures.archive c.unopened.ensures.answer c.answer_office.ensures
