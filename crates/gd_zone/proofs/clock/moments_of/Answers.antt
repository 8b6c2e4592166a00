use Rattle.std.proofs.Common.{get_or, sym, subst, arith}
use Rattle.std.proofs.lemmas.List.{length-set}
use Rattle.jiff.specs.Words.{plain_zone}
use Rattle.gd_rules.specs.GasDay as gas_day
use Rattle.gd_rules.specs.GasDay.{civil_times, day_before}
use Rattle.gd_zone.specs.declared.clock.Day.TheVariants as code
use Rattle.gd_zone.specs.declared.clock.CivilTime.{CivilTime}
use Rattle.gd_zone.specs.declared.clock.TheConstants.{CIVIL_TIMES}
use Rattle.gd_zone.specs.Clock.{time_of}
use Rattle.gd_zone.specs.Zone.{HasMoment}
use Rattle.gd_zone.proofs.Moments.{AreMoments-from, AreMoments-at, no_moment_at, found_more, time_of-get_or}
use Rattle.gd_zone.proofs.clock.moments_of.Goals as goal

none : CivilTime
none = record { 0 = code.Before; 1 = 0; 2 = 0 }

pub times-preserved : goal.times-preserved
unfolding none
times-preserved c =
    let count = c.times.invariant.count in
    let is = time_of-get_or CIVIL_TIMES c.times.i none in
    record {
      count = simp length-set count;
      found = found_more (plain_zone c.args.zone.now) c.args.date civil_times (day_before 0 0) c.times.moments c.times.i c.in-Some-moment_at.moment (omega arith) c.times.invariant.found
          (subst (λ (t : gas_day.Time). HasMoment (plain_zone c.args.zone.now) c.args.date t c.in-Some-moment_at.moment) is (c.in-Some-civil_at.civil, c.in-Some-civil_at.ensures, c.in-Some-moment_at.ensures));
    }

pub returns : goal.returns
returns c =
    AreMoments-from (plain_zone c.args.zone.now) c.args.date civil_times c.times.moments (day_before 0 0) c.times.invariant.count (λ k low. c.times.invariant.found k (omega arith))

pub returns-in_default-civil_at : goal.returns-in_default-civil_at
unfolding none
returns-in_default-civil_at c moments are =
    let is = time_of-get_or CIVIL_TIMES c.times.i none in
    let found = AreMoments-at (plain_zone c.args.zone.now) c.args.date civil_times moments (day_before 0 0) c.times.i (omega arith) are in
    let there : HasMoment (plain_zone c.args.zone.now) c.args.date (time_of (get_or CIVIL_TIMES c.times.i none)) found.0 = subst (λ (t : gas_day.Time). HasMoment (plain_zone c.args.zone.now) c.args.date t found.0) (sym is) found.1 in
    c.in_default-civil_at.ensures there.0 there.1

pub returns-in_default-moment_at : goal.returns-in_default-moment_at
unfolding none
returns-in_default-moment_at c moments are =
    let is = time_of-get_or CIVIL_TIMES c.times.i none in
    let found = AreMoments-at (plain_zone c.args.zone.now) c.args.date civil_times moments (day_before 0 0) c.times.i (omega arith) are in
    let there : HasMoment (plain_zone c.args.zone.now) c.args.date (time_of (get_or CIVIL_TIMES c.times.i none)) found.0 = subst (λ (t : gas_day.Time). HasMoment (plain_zone c.args.zone.now) c.args.date t found.0) (sym is) found.1 in
    no_moment_at (plain_zone c.args.zone.now) c.args.date _ c.in-Some-civil_at.civil c.in-Some-civil_at.ensures c.in_default-moment_at.ensures found.0 there
