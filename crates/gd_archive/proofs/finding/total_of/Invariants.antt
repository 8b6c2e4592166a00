use Rattle.std.proofs.Common.{◌≡◌, ◌≤◌, ◌*◌}
use Rattle.gd_scale.specs.Sum.{sum_nat}
use Rattle.gd_rules.specs.Limits.{most_dekatherms}
use Rattle.gd_rules.specs.Schedule.{quantity}
use Rattle.gd_archive.proofs.finding.total_of.Given as goal

-- The lines so far are added, each of which has the greatest quantity at most.
abbrev pub invariant-loop-line : goal.invariant-loop-line
invariant-loop-line l = record {
  is : l.total ≡ sum_nat l.line (quantity l.schedule);
  high : l.total ≤ l.line * most_dekatherms;
}
