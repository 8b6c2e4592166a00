-- The moments of a gas day's civil times in a time zone.
use Rattle.std.specs.Prelude.{◌≡◌, ℕ, ℤ, pos, neg_ℤ, ◌+ℤ◌, ◌≤◌, int_div, Option, Some, None, List, [], ◌∷◌}
use Rattle.jiff.specs.Words.{IsHms, ambiguous_at, epoch_day, instant_of}
use Rattle.jiff.specs.Types.{Date, DateTime, TimeZone, AmbiguousOffset, Unambiguous, Gap, Fold}
use Rattle.gd_rules.specs.GasDay.{Day, Time, civil_times}
use Rattle.gd_rules.specs.GasDay.Day.{Before, Same, After}
use Rattle.gd_rules.specs.Limits.{latest_moment}
use Rattle.gd_calendar.specs.Calendar.{IsCalendar}

-- The seconds since 1970-01-01T00:00:00Z at which a clock with these offsets shows the date and time, where it does so exactly once.
abbrev pub once : DateTime → AmbiguousOffset → Option ℤ
once civil (Unambiguous offset) = Some (int_div (instant_of civil offset) (pos 1_000_000_000))
once civil (Gap before after) = None
once civil (Fold before after) = None

-- The zone's clock shows the date and time at this moment and at no other, and no moment is later than the latest one.
abbrev pub IsMomentOf : TimeZone → DateTime → ℕ → Type 0
IsMomentOf zone civil moment = (once civil (ambiguous_at zone civil) ≡ Some (pos moment)) × (moment ≤ latest_moment)

-- How many days after the gas day.
abbrev pub shift : Day → ℤ
shift Before = neg_ℤ (pos 1)
shift Same = pos 0
shift After = pos 1

-- The date is that of the gas day, or of the day before or after it.
abbrev pub IsBeside : Date → Day → Date → Type 0
IsBeside date day other = epoch_day other ≡ epoch_day date +ℤ shift day

-- The date and time is this time of the clock.
abbrev pub IsCivil : Date → Time → DateTime → Type 0
IsCivil date t civil = IsBeside date t.day civil.date × IsHms (pos t.hour) (pos t.minute) (pos 0) (pos 0) civil.time

-- The time of the clock has this moment.
abbrev pub HasMoment : TimeZone → Date → Time → ℕ → Type 0
HasMoment zone date t moment = (civil : DateTime) × IsCivil date t civil × IsMomentOf zone civil moment

-- Each time of the clock has its moment, in order.
abbrev pub AreMoments : TimeZone → Date → List Time → List ℕ → Type 0
AreMoments zone date [] [] = Unit {0}
AreMoments zone date (t ∷ times) (moment ∷ moments) = HasMoment zone date t moment × AreMoments zone date times moments
AreMoments zone date [] (moment ∷ moments) = ⊥
AreMoments zone date (t ∷ times) [] = ⊥

-- The calendar that the zone gives the gas day: the moments of its 29 civil times, where they rise, the elapsed hours are 5, 9 and 13, and the length is 23, 24 or 25 hours.
pub record IsCalendarOf (zone : TimeZone) (date : Date) (moments : List ℕ) : Type 0 where
  pub times : AreMoments zone date civil_times moments
  pub calendar : IsCalendar moments

-- The zone gives the gas day no calendar.
abbrev pub IsBadZone : TimeZone → Date → Type 0
IsBadZone zone date = (moments : List ℕ) → IsCalendarOf zone date moments → ⊥
