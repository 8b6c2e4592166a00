use Rattle.std.proofs.Common.{List, map, subst, arith, ap, length, take, length-append}
use Rattle.std.specs.List.{AllZip}
use Rattle.std.proofs.lemmas.List.{take_all}
use Rattle.std.proofs.lemmas.Grind.{common_steps}
use Rattle.gd_day.specs.declared.text.DayText.{DayText}
use Rattle.gasday_office.specs.Days.{opened}
use Rattle.gasday_office.specs.Offices.{IsCalendarFor}
use Rattle.std.proofs.lemmas.Result.{err_from_is_err_and}
use Rattle.gasday_office.proofs.Calendars.{lacks_at, calendars_more, have_calendars}
use Rattle.gasday_office.proofs.books.calendars_of.Goals as goal

pub returns-in_err-take_day-clause-first : goal.returns-in_err-take_day-clause-first
returns-in_err-take_day-clause-first c =
    let p = err_from_is_err_and c.from_residual.result c.from_residual.ensures.1 in
    rw (p.1, p.2) (lacks_at c.args.days.now c.loop-day.day-index c.day-item.result _ c.loop-day-test.true c.day-item.is
    (have_calendars (map opened (take c.loop-day.day-index c.args.days.now)) c.loop-day.calendars.items c.loop-day.invariant.1) c.in_err-take_day.ensures.err)

pub loop-day-preserved : goal.loop-day-preserved
loop-day-preserved c =
    let took = c.in_ok-take_day.ensures.ok in (
      (let l = ap length took.2 in let i = c.loop-day.invariant.0 in grind (arith, length-append, common_steps)),
      rw took.2 (calendars_more c.args.days.now c.loop-day.day-index c.day-item.result c.loop-day.calendars.items took.0 c.loop-day-test.true c.day-item.is c.loop-day.invariant.1 took.1),
    )

pub returns-clause-each : goal.returns-clause-each
returns-clause-each c =
    let days = c.args.days.now in let i = c.loop-day.day-index in
    subst (λ (ds : List DayText). AllZip IsCalendarFor (map opened ds) c.loop-day.calendars.items) (take_all i days (omega (arith, c.loop-day-test.false))) c.loop-day.invariant.1
