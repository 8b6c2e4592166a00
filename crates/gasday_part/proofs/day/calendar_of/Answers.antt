use Rattle.std.proofs.Common.{inl, inr, ap, Err}
use Rattle.gd_zone.specs.declared.gas_day.CalendarFault.{CalendarFault}
use Rattle.jiff.specs.Words.{plain_zone}
use Rattle.gasday_part.proofs.day.calendar_of.Goals as goal

pub returns-in_default-posix-clause-err : goal.returns-in_default-posix-clause-err
returns-in_default-posix-clause-err c =
    let none = rw c.as_str.ensures at c.in_default-posix.ensures.succeeds in
    let is = c.in_default-posix.is in
    (c.day_in_zones.result, c.day_in_zones.ensures, c.in-Ok.ensures.1, inl (λ s. let bad = none.1 s in cc))

pub returns-in-Ok-calendar-clause-ok : goal.returns-in-Ok-calendar-clause-ok
returns-in-Ok-calendar-clause-ok c =
    let rule = rw c.as_str.ensures at c.in-Ok-posix.ensures.value in
    let calendar = rw c.in-Ok.ensures.0 at c.in-Ok-calendar.ensures.ok in
    (c.day_in_zones.result, c.day_in_zones.ensures, c.in-Ok.ensures.1, (plain_zone c.in-Ok-posix.zone, rule, calendar))

pub returns-in-Err-BadZone-clause-err : goal.returns-in-Err-BadZone-clause-err
returns-in-Err-BadZone-clause-err c =
    let rule = rw c.as_str.ensures at c.in-Ok-posix.ensures.value in
    let bad = rw c.in-Ok.ensures.0 at c.in-Err-BadZone.ensures.bad_zone in
    (c.day_in_zones.result, c.day_in_zones.ensures, c.in-Ok.ensures.1, inr (plain_zone c.in-Ok-posix.zone, rule, bad.0 (ap (λ (f : CalendarFault). Err f) c.in-Err-BadZone.field-0-is)))
