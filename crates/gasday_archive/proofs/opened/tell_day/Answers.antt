use Rattle.std.proofs.Common.{List, None, Result, inl, sym, subst}
use Rattle.std.proofs.lemmas.Result.{IfOk-weaker}
use Rattle.std.specs.Global.{Vec}
use Rattle.gd_day.specs.Opening.{opened_of}
use Rattle.gd_text_part.specs.declared.fault.RowFault.{RowFault}
use Rattle.gd_text_part.specs.declared.row.Row.{Row}
use Rattle.gasday_archive.specs.Runs.{TellsBytes, TellsDay, TellsRows}
use Rattle.gasday_archive.proofs.Telling.{bytes_refused, told_so, unopened}
use Rattle.gasday_archive.proofs.opened.tell_day.Goals as goal

pub returns-in-Ok : goal.returns-in-Ok
returns-in-Ok g c =
    let gives = g.O.Opener.opens c.args.opener in
    let rows : List Row = c.in-Ok.rows.items in
    told_so (TellsDay g.S.Store gives c.args.is_strict rows (opened_of rows)) (TellsBytes g.S.Store gives c.args.is_strict c.args.text.now) c.tell_rows.result.archive c.tell_rows.result.answer
    (λ a t. inl (
      c.in-Ok.ensures.0,
      subst (λ (r : Result (List Row) RowFault). TellsRows g.S.Store gives c.args.is_strict r c.tell_rows.result.archive a) (sym c.in-Ok.ensures.1)
          t,
    ))
    c.tell_rows.ensures

pub returns-in-Err : goal.returns-in-Err
returns-in-Err g c =
    let gives = g.O.Opener.opens c.args.opener in
    unopened (TellsBytes g.S.Store gives c.args.is_strict c.args.text.now) c.unopened.result.archive c.of_fault.result c.unopened.result.answer c.unopened.ensures.archive c.unopened.ensures.answer
    (IfOk-weaker c.of_fault.result _ _
    (λ a t. subst (TellsBytes g.S.Store gives c.args.is_strict c.args.text.now None) (sym t.1) (bytes_refused g.S.Store gives c.args.is_strict (λ (v : Vec Row). v.items) c.args.text.now c.in-Err.fault c.in-Err.ensures t.0))
    c.of_fault.ensures)
