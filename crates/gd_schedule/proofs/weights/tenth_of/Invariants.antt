use Rattle.std.proofs.Common.{◌≡◌, ◌≤◌}
use Rattle.std.specs.Prelude.{if◌then◌else◌, nat_lt}
use Rattle.gd_scale.specs.Sum.{sum_nat}
use Rattle.gd_rules.specs.Spread.{tenth_end}
use Rattle.gd_schedule.proofs.weights.tenth_of.Given as goal

-- Those of the tenths so far that end below.
abbrev pub invariant-loop-j : goal.invariant-loop-j
invariant-loop-j l = record {
  is : l.tenth ≡ sum_nat l.j (λ j. if nat_lt (tenth_end l.last j) l.dekatherm then 1 else 0);
  high : l.tenth ≤ l.j;
}
