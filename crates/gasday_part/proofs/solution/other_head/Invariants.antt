use Rattle.std.proofs.Common.{◌≡◌, ◌≤◌, ◌+◌, length}
use Rattle.gasday_part.specs.Solutions.{first_other}
use Rattle.gasday_part.proofs.solution.other_head.Given as goal

abbrev pub invariant-bytes : goal.invariant-bytes
invariant-bytes l = record {
  left : first_other (l.row, l.field) l.rest l.left ≡ first_other (l.fn.first, 1) l.fn.head l.fn.wanted;
  row : l.row + length l.rest ≤ l.fn.first + length l.fn.head;
  field : l.field + length l.rest ≤ 1 + length l.fn.head;
}

abbrev pub decreases-bytes : goal.decreases-bytes
decreases-bytes l = length l.rest
