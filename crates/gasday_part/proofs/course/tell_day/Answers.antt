use Rattle.std.proofs.lemmas.Result.{IfOk-weaker}
use Rattle.gasday_part.specs.AnswerSeen.{answer_seen}
use Rattle.gasday_part.proofs.Openings.{tells_opened, tells_none}
use Rattle.gasday_part.proofs.course.tell_day.Goals as goal

pub returns-in-Ok : goal.returns-in-Ok
returns-in-Ok g c = tells_opened c.args.is_strict c.args.rows.items c.in-Ok.book (answer_seen c.tell_calls-told.result) (rw c.as_slice.ensures.value at c.in-Ok.ensures.opened) c.tell_calls-told.ensures

pub returns-in-Err : goal.returns-in-Err
returns-in-Err g c = IfOk-weaker c.of_no_book.result _ _ (λ a t. tells_none c.args.is_strict c.args.rows.items c.in-Err.why (answer_seen a) (rw c.as_slice.ensures.value at c.in-Err.ensures.refused) t) c.of_no_book.ensures
