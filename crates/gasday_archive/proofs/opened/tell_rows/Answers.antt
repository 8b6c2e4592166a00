use Rattle.std.proofs.Common.{None, Result, inl, inr, refl, sym, subst}
use Rattle.std.proofs.lemmas.Result.{IfOk-weaker}
use Rattle.gd_day.specs.Opening.{Opened, opened_of}
use Rattle.gd_text_part.specs.declared.fault.TextFault.{TextFault}
use Rattle.gasday_part.specs.AnswerSeen.{answer_seen}
use Rattle.gasday_archive.specs.Runs.{TellsDate, TellsDay}
use Rattle.gasday_archive.proofs.Telling.{told_so, unopened}
use Rattle.gasday_archive.proofs.opened.tell_rows.Goals as goal

pub returns-in-Ok : goal.returns-in-Ok
returns-in-Ok g c =
    let gives = g.O.Opener.opens c.args.opener in
    let rows = c.args.rows.items in
    let o : Opened = record { date = c.in-Ok.text.date; zone = c.in-Ok.text.zone; book = c.in-Ok.text.book; holdings = c.in-Ok.text.contracts; carry = c.in-Ok.text.carry.items } in
    told_so (TellsDate g.S.Store gives c.args.is_strict rows o) (TellsDay g.S.Store gives c.args.is_strict rows (opened_of rows)) c.tell_text.result.archive c.tell_text.result.answer
    (λ a t. subst (λ (r : Result Opened TextFault). TellsDay g.S.Store gives c.args.is_strict rows r c.tell_text.result.archive a) (sym (rw c.as_slice.ensures.value at c.in-Ok.ensures.values)) t) c.tell_text.ensures

pub returns-in-Err : goal.returns-in-Err
returns-in-Err g c =
    let gives = g.O.Opener.opens c.args.opener in
    let rows = c.args.rows.items in
    unopened (TellsDay g.S.Store gives c.args.is_strict rows (opened_of rows)) c.unopened.result.archive c.of_fault.result c.unopened.result.answer c.unopened.ensures.archive c.unopened.ensures.answer
    (IfOk-weaker c.of_fault.result _ _
    (λ a t. elim (rw c.as_slice.ensures.value at c.in-Err.ensures.values) [
      | inl memory ↦ absurd (t.0 memory)
      | inr is ↦ subst (λ (r : Result Opened TextFault). TellsDay g.S.Store gives c.args.is_strict rows r None (answer_seen a)) (sym is) (refl, t.1)
    ])
    c.of_fault.ensures)
