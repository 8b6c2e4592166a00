use Rattle.std.proofs.Common.{inl, inr}
use Rattle.gd_day.specs.Calls.{calls_of}
use Rattle.gasday_words.specs.declared.order.Command.TheVariants as command
use Rattle.gasday_part.specs.Answers.{AnswersRows}
use Rattle.gasday_part.specs.Inquiries.{PrintsBehind}
use Rattle.gasday_part.proofs.Inquiring.{tells_faulty, tells_no_book, writes_printed}
use Rattle.gasday_part.proofs.inquiry.ask_rows.Goals as goal

pub returns-in-Ok : goal.returns-in-Ok
returns-in-Ok g c =
    let prints = PrintsBehind c.in-Ok.book.day (calls_of c.args.rows.items) c.args.inquiry in
    inl (c.in-Ok.book, rw c.as_slice.ensures.value at c.in-Ok.ensures.opened, writes_printed prints _ _ _ c.print_behind-printed.result c.print_behind-printed.ensures c.write_printed.ensures.written c.write_printed.ensures.short)

pub returns-in-Err : goal.returns-in-Err
returns-in-Err g c =
    let told = tells_no_book c.args.rows.items c.in-Err.why c.of_no_book.result (rw c.as_slice.ensures.value at c.in-Err.ensures.refused) c.of_no_book.ensures in
    inr (tells_faulty _ _ _ (AnswersRows command.Day c.args.rows.items) c.of_no_book.result told c.write_rows.ensures)
