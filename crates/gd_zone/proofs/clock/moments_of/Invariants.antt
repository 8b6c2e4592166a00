use Rattle.std.proofs.Common.{◌≡◌, ℕ, ◌<◌, length, get_or}
use Rattle.jiff.specs.Words.{plain_zone}
use Rattle.gd_rules.specs.GasDay.{civil_times, day_before}
use Rattle.gd_zone.specs.Zone.{HasMoment}
use Rattle.gd_zone.proofs.clock.moments_of.Given as goal

abbrev pub invariant-times : goal.invariant-times
invariant-times l = record {
  count : length l.moments ≡ 29;
  found : (k : ℕ) → k < l.i → HasMoment (plain_zone l.fn.zone) l.fn.date (get_or civil_times k (day_before 0 0)) (get_or l.moments k 0);
}
