-- The definitions at worked examples.
use Rattle.std.proofs.Common.{◌≡◌, Some, None, refl, arith, lit<, lit≤, pos, negsuc}
use Rattle.jiff.proofs.SpanFacts.{signed_arith}
use Rattle.jiff.specs.Types.{Date, DateTime, Unambiguous, Gap, Fold, Offset}
use Rattle.jiff_core.specs.Calendar.{days_from_civil, day_count, days_of_years, days_of_months}
use Rattle.jiff_core.specs.DateTime.{civil_nanos}
use Rattle.gd_rules.specs.GasDay as gas_day
use Rattle.gd_rules.specs.GasDay.Mark.{Received}
use Rattle.gd_zone.specs.Range.{IsGasDay}
use Rattle.gd_zone.specs.Zone.{once, IsCivil}

-- the first and the last gas day by number
ends : (days_from_civil (pos 2016) 4 2 ≡ pos 16893) × (days_from_civil (pos 2099) 12 31 ≡ pos 47481)
unfolding days_from_civil day_count days_of_years days_of_months
ends = (refl, refl)

-- 13:15 on 2026-03-07
civil : DateTime
civil = record {
  date = record {
    year = pos 2026;
    month = 3;
    day = 7;
    year_in = (omega (arith, signed_arith), omega (arith, signed_arith));
    month_in = (omega arith, omega arith);
    day_in = (lit≤ tt, lit≤ tt);
  };
  time = record {
    hour = 13;
    minute = 15;
    second = 0;
    subsec_nanosecond = 0;
    hour_in = lit< tt;
    minute_in = lit< tt;
    second_in = lit< tt;
    subsec_in = lit< tt;
  };
}

gas_date : Date
gas_date = record {
  year = pos 2026;
  month = 3;
  day = 8;
  year_in = (omega (arith, signed_arith), omega (arith, signed_arith));
  month_in = (omega arith, omega arith);
  day_in = (lit≤ tt, lit≤ tt);
}

six_hours_west : Offset
six_hours_west = record { seconds = negsuc 21599; in_range = (omega (arith, signed_arith), omega (arith, signed_arith)) }

-- it is the received time of Timely, and its moment six hours west of Greenwich is that of the table
moment : once civil (Unambiguous six_hours_west) ≡ Some (pos 1772910900)
unfolding civil six_hours_west civil_nanos days_from_civil day_count days_of_years days_of_months
moment = refl

missing : once civil (Gap six_hours_west six_hours_west) ≡ None
missing = refl

ambiguous : once civil (Fold six_hours_west six_hours_west) ≡ None
ambiguous = refl

is_received : IsCivil gas_date (gas_day.civil_time 1 Received) civil
unfolding civil gas_date days_from_civil day_count days_of_years days_of_months
is_received = (refl, (refl, refl, refl, refl))

is_gas_day : IsGasDay gas_date
unfolding gas_date days_from_civil day_count days_of_years days_of_months
is_gas_day = (omega (arith, signed_arith), omega (arith, signed_arith))
