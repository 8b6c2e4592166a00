use Rattle.std.proofs.Common.{◌≡◌, ◌≤◌, ◌+◌, length, true}
use Rattle.gasday_part.specs.Solutions.{row_count}
use Rattle.gasday_part.proofs.solution.row_count.Given as goal

abbrev pub invariant-bytes : goal.invariant-bytes
invariant-bytes l = record {
  left : l.count + row_count l.begun l.rest ≡ row_count true l.fn.lines;
  within : l.count + length l.rest ≤ length l.fn.lines;
}

abbrev pub decreases-bytes : goal.decreases-bytes
decreases-bytes l = length l.rest
