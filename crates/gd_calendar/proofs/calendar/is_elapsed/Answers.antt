use Rattle.std.proofs.Common.{arith}
use Rattle.std.proofs.lemmas.Bool.{false≢true, iff_false}
use Rattle.gd_calendar.proofs.Calendars.{elapsed_whole, elapsed_at, read}
use Rattle.gd_calendar.proofs.calendar.is_elapsed.Goals as goal

pub returns-then-not-is_hours_after : goal.returns-then-not-is_hours_after
returns-then-not-is_hours_after c =
    let start = read c.args.moments.now 10 c.index-moments-10.result (omega arith) c.index-moments-10.is in
    let effective = read c.args.moments.now 16 c.index-moments-16.result (omega arith) c.index-moments-16.is in
    (λ t. absurd (false≢true t), λ e. let at = elapsed_at c.args.moments.now e in absurd (iff_false c.is_hours_after.ensures c.if-not-is_hours_after.true (omega arith)))

pub returns-then-not-is_hours_after-2 : goal.returns-then-not-is_hours_after-2
returns-then-not-is_hours_after-2 c =
    let start = read c.args.moments.now 10 c.index-moments-10.result (omega arith) c.index-moments-10.is in
    let effective = read c.args.moments.now 22 c.index-moments-22.result (omega arith) c.index-moments-22.is in
    (λ t. absurd (false≢true t), λ e. let at = elapsed_at c.args.moments.now e in absurd (iff_false c.is_hours_after-2.ensures c.if-not-is_hours_after-2.true (omega arith)))

pub returns : goal.returns
returns c =
    let start = read c.args.moments.now 10 c.index-moments-10.result (omega arith) c.index-moments-10.is in
    let first = read c.args.moments.now 16 c.index-moments-16.result (omega arith) c.index-moments-16.is in
    let second = read c.args.moments.now 22 c.index-moments-22.result (omega arith) c.index-moments-22.is in
    let third = read c.args.moments.now 27 c.index-moments-27.result (omega arith) c.index-moments-27.is in (
      λ t. let a = c.is_hours_after.ensures.0 c.if-not-is_hours_after.false in let b = c.is_hours_after-2.ensures.0 c.if-not-is_hours_after-2.false in let d = c.is_hours_after-3.ensures.0 t in
          elapsed_whole c.args.moments.now (omega arith) (omega arith) (omega arith),
      λ e. let at = elapsed_at c.args.moments.now e in c.is_hours_after-3.ensures.1 (omega arith),
    )
