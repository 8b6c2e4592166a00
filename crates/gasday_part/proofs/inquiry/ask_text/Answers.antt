use Rattle.std.proofs.Common.{inr}
use Rattle.std.specs.Global.{Vec}
use Rattle.gd_text_part.specs.declared.row.Row.{Row}
use Rattle.gasday_words.specs.declared.order.Command.TheVariants as command
use Rattle.gasday_part.specs.Answers.{AnswersBytes}
use Rattle.gasday_part.proofs.Inquiring.{tells_faulty, tells_no_rows}
use Rattle.gasday_part.proofs.inquiry.ask_text.Goals as goal

pub returns-in-Err : goal.returns-in-Err
returns-in-Err g c =
    let told = tells_no_rows {X = Vec Row} (λ rows. rows.items) c.args.text.now c.in-Err.fault c.of_fault.result c.in-Err.ensures c.of_fault.ensures in
    inr (tells_faulty _ _ _ (AnswersBytes command.Day c.args.text.now) c.of_fault.result told c.write_rows.ensures)
