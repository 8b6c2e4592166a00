use Rattle.std.proofs.Common.{◌∙◌, List, Result, Ok, ap, sym}
use Rattle.std.proofs.lemmas.Result.{IfOk-weaker}
use Rattle.gd_text_part.specs.declared.row.Row.{Row}
use Rattle.gd_text_part.specs.declared.fault.RowFault.{RowFault}
use Rattle.gasday_words.specs.declared.order.Command.{Command}
use Rattle.gasday_part.specs.Answers.{form_of}
use Rattle.gasday_part.specs.AnswerSeen.{answer_seen}
use Rattle.gasday_part.proofs.Judging.{checked_whole}
use Rattle.gasday_part.proofs.solution.check_answer.Goals as goal

pub returns-in-Ok : goal.returns-in-Ok
returns-in-Ok g c =
    let ok : List Row → Result (List Row) RowFault = λ rows. Ok rows in
    IfOk-weaker c.check_behind.result _ _ (λ a checks. checked_whole c.args.question.now c.args.answer.now _ c.as_slice.result.now (answer_seen a)
    (c.form_of.ensures ∙ ap (λ (k : Command). form_of k) c.check_of.ensures) (c.in-Ok.ensures.0, c.in-Ok.ensures.1 ∙ ap ok (sym c.as_slice.ensures.value)) checks) c.check_behind.ensures
