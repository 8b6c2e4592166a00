use Rattle.std.proofs.Common.{◌≡◌, ◌-◌, ◌≤◌, ◌*◌}
use Rattle.gd_scale.specs.Sum.{sum_nat}
use Rattle.gd_rules.specs.Spread.{tenth_end}
use Rattle.gd_schedule.proofs.weights.line_weight.Given as goal

-- The tenths so far are counted.
abbrev pub invariant-loop-j : goal.invariant-loop-j
invariant-loop-j l = record {
  is : l.weight ≡ sum_nat l.j (λ j. l.count - tenth_end l.last j);
  high : l.weight ≤ l.j * 1000000000;
}
