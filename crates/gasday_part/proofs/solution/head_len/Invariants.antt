use Rattle.std.proofs.Common.{◌≡◌, ◌+◌, length, true}
use Rattle.gasday_part.specs.Solutions.{head_len}
use Rattle.gasday_part.proofs.solution.head_len.Given as goal

abbrev pub invariant-bytes : goal.invariant-bytes
invariant-bytes l = record {
  left : l.count + head_len l.begun l.rest ≡ head_len true l.fn.answer;
  all : l.count + length l.rest ≡ length l.fn.answer;
}

abbrev pub decreases-bytes : goal.decreases-bytes
decreases-bytes l = length l.rest
