use Rattle.std.proofs.Common.{inl, inr, refl, arith}
use Rattle.std.proofs.lemmas.Bool.{false≢true, iff_false, cases_lt}
use Rattle.gd_calendar.specs.Calendar.{hours}
use Rattle.gd_calendar.proofs.Calendars.{length_whole, length_at, read}
use Rattle.gd_calendar.proofs.calendar.has_length.Goals as goal

pub returns-then-is_hours_after : goal.returns-then-is_hours_after
returns-then-is_hours_after c =
    let start = read c.args.moments.now 10 c.index-moments-10.result (omega arith) c.index-moments-10.is in
    let finish = read c.args.moments.now 28 c.index-moments-28.result (omega arith) c.index-moments-28.is in
    let whole = c.is_hours_after.ensures.0 c.if-is_hours_after.true in
    (λ _. length_whole c.args.moments.now c.loop-hours.hours (omega arith) (omega arith) (omega arith), λ _. refl)

pub loop-hours-preserved : goal.loop-hours-preserved
loop-hours-preserved c h low less e =
    elim (cases_lt h c.loop-hours.hours) [
      | inl before ↦ c.loop-hours.invariant h low before e
      | inr here ↦ iff_false c.is_hours_after.ensures c.if-is_hours_after.false (omega arith)
    ]

pub returns : goal.returns
returns c =
    let start = read c.args.moments.now 10 c.index-moments-10.result (omega arith) c.index-moments-10.is in
    let finish = read c.args.moments.now 28 c.index-moments-28.result (omega arith) c.index-moments-28.is in (
      λ t. absurd (false≢true t),
      λ length. let at = length_at c.args.moments.now length in absurd (c.loop-hours.invariant (hours c.args.moments.now) (omega arith) (omega arith) (omega arith)),
    )
