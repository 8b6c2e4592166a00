use Rattle.std.proofs.Common.{◌≡◌, ℕ, ◌+◌, ◌<◌, length, get_or, false}
use Rattle.gd_flow.proofs.cut.marks_from.Given as goal

abbrev pub invariant-loop-k : goal.invariant-loop-k
invariant-loop-k l = record {
  size : length l.part.items ≡ l.k;
  entries : (j : ℕ) → j < l.k → get_or l.part.items j false ≡ get_or l.marks (l.first + j) false;
}
