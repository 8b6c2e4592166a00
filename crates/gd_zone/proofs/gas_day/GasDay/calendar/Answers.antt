use Rattle.std.proofs.Common.{◌≡◌, ℕ, List, Result, Err, refl, subst, sym}
use Rattle.std.specs.Result.{IsErrAnd}
use Rattle.gd_zone.specs.declared.gas_day.CalendarFault.{CalendarFault}
use Rattle.gd_zone.specs.declared.gas_day.CalendarFault.TheVariants.{BadZone, OutOfMemory}
use Rattle.std.proofs.lemmas.Bool.{iff_false}
use Rattle.jiff.specs.Words.{plain_zone}
use Rattle.jiff.specs.Types.{Date}
use Rattle.gd_rules.specs.GasDay.{civil_times}
use Rattle.gd_calendar.specs.Calendar.{IsCalendar}
use Rattle.gd_zone.specs.Zone.{AreMoments, IsCalendarOf}
use Rattle.gd_zone.proofs.Moments.{same_moments}
use Rattle.gd_zone.proofs.gas_day.GasDay.calendar.Goals as goal

pub returns-in_default-clause-bad_zone : goal.returns-in_default-clause-bad_zone
returns-in_default-clause-bad_zone c =
    (λ _ moments is. c.in_default.ensures moments (subst (λ (date : Date). AreMoments (plain_zone c.args.zone.now) date civil_times moments) (sym c.date.ensures.is) is.times), λ _. refl)

pub returns-then-not-is_of-clause-bad_zone : goal.returns-then-not-is_of-clause-bad_zone
returns-then-not-is_of-clause-bad_zone c =
    let are : AreMoments (plain_zone c.args.zone.now) c.args.self civil_times c.in-Some.moments = subst (λ (date : Date). AreMoments (plain_zone c.args.zone.now) date civil_times c.in-Some.moments) c.date.ensures.is c.in-Some.ensures in (
      λ _ moments is.
          let same : moments ≡ c.in-Some.moments = same_moments (plain_zone c.args.zone.now) c.args.self civil_times moments c.in-Some.moments is.times are in
          iff_false c.is_of.ensures c.if-not-is_of.true (subst (λ (ms : List ℕ). IsCalendar ms) same is.calendar),
      λ _. refl,
    )

pub returns-clause-ok : goal.returns-clause-ok
returns-clause-ok c =
    let are : AreMoments (plain_zone c.args.zone.now) c.args.self civil_times c.in-Some.moments = subst (λ (date : Date). AreMoments (plain_zone c.args.zone.now) date civil_times c.in-Some.moments) c.date.ensures.is c.in-Some.ensures in
    let there : IsCalendarOf (plain_zone c.args.zone.now) c.args.self c.in-Some.moments = record { times = are; calendar = c.is_of.ensures.0 c.if-not-is_of.false } in
    subst (λ (ms : List ℕ). IsCalendarOf (plain_zone c.args.zone.now) c.args.self ms) (sym c.in_ok-of.ensures) there

pub returns-clause-bad_zone : goal.returns-clause-bad_zone
returns-clause-bad_zone c =
    let are : AreMoments (plain_zone c.args.zone.now) c.args.self civil_times c.in-Some.moments = subst (λ (date : Date). AreMoments (plain_zone c.args.zone.now) date civil_times c.in-Some.moments) c.date.ensures.is c.in-Some.ensures in
    (λ e. cc, λ bad. absurd (bad c.in-Some.moments (record { times = are; calendar = c.is_of.ensures.0 c.if-not-is_of.false })))

-- want of memory is told as no bad zone
want_of_memory : {V : Type 0} (r : Result V CalendarFault) → IsErrAnd r (λ e. e ≡ OutOfMemory) → r ≡ Err BadZone → ⊥
want_of_memory {V} r h e =
    let other : BadZone ≡ OutOfMemory = subst (λ (s : Result V CalendarFault). IsErrAnd s (λ f. f ≡ OutOfMemory)) e h in
    cc

pub returns-in_err-of-clause-bad_zone : goal.returns-in_err-of-clause-bad_zone
returns-in_err-of-clause-bad_zone c =
    let are : AreMoments (plain_zone c.args.zone.now) c.args.self civil_times c.in-Some.moments = subst (λ (date : Date). AreMoments (plain_zone c.args.zone.now) date civil_times c.in-Some.moments) c.date.ensures.is c.in-Some.ensures in (
      λ e. absurd (want_of_memory c.from_residual.result c.from_residual.ensures.1 e),
      λ bad. absurd (bad c.in-Some.moments (record { times = are; calendar = c.is_of.ensures.0 c.if-not-is_of.false })),
    )
