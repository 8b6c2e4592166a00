use Rattle.gasday_part.specs.Answers.{AnswersRows, form_of}
use Rattle.gasday_part.proofs.Finding.{finds}
use Rattle.gasday_part.proofs.answer.answer_of.Goals as goal

pub returns-in-Ok : goal.returns-in-Ok
returns-in-Ok g c =
    let k = c.args.command in
    finds (form_of k) (AnswersRows k) c.args.text.now c.in-Ok.rows.items c.answer_to_rows.result (rw c.form_of.ensures at c.in-Ok.ensures) c.answer_to_rows.ensures
