use Rattle.gd_text_part.specs.declared.kind.Form.TheVariants as form
use Rattle.gasday_part.proofs.Finding.{finds}
use Rattle.gasday_office.specs.Offices.{AnswersOffice}
use Rattle.gasday_office.proofs.answer.answer_office.Goals as goal

pub returns-in-Ok : goal.returns-in-Ok
returns-in-Ok g c =
    finds form.Office (AnswersOffice c.args.is_strict) c.args.text.now c.in-Ok.rows.items c.tell_office.result c.in-Ok.ensures c.tell_office.ensures
