use Rattle.std.proofs.Common.{refl}
use Rattle.std.proofs.lemmas.Result.{IfOk-weaker}
use Rattle.gasday_part.specs.Answers.{one, no_memory, fault_answer}
use Rattle.gd_replies.specs.declared.reply.Reply.TheVariants as reply
use Rattle.gd_text_part.specs.declared.fault.TextFault.TheVariants as fault
use Rattle.gasday_live.proofs.Running.{told_2}
use Rattle.gasday_live.proofs.output.tell_failure.Goals as goal

pub returns-in-ReadFailed : goal.returns-in-ReadFailed
returns-in-ReadFailed g c =
    let answer = fault_answer fault.ReadFailed in
    rw c.in-ReadFailed.is (told_2 _ _ _ answer refl (c.write_rows.ensures answer (IfOk-weaker c.of_fault.result _ _ (λ a t. t.1) c.of_fault.ensures)))

pub returns-in-OutOfMemory : goal.returns-in-OutOfMemory
returns-in-OutOfMemory g c = rw c.in-OutOfMemory.is (told_2 _ _ _ (one no_memory 2) refl (c.write_rows-in-OutOfMemory.ensures (one no_memory 2) tt))

pub returns-in-Store : goal.returns-in-Store
returns-in-Store g c =
    let answer = one reply.Store 2 in
    rw c.in-Store.is (told_2 _ _ _ answer refl (c.write_rows-in-Store.ensures answer c.of_one.ensures))
