use Rattle.std.proofs.Common.{◌≡◌, ℕ, ◌<◌, ◌≤◌, nat_le, length, get_or, if◌then◌else◌}
use Rattle.gd_lines.proofs.state.fill_from.Given as goal

abbrev pub invariant-loop-i : goal.invariant-loop-i
invariant-loop-i g l = record {
  rest : (k : ℕ) (d : g.row.T.Denot) → l.i ≤ k → get_or l.values k d ≡ get_or l.initial.values k d;
  filled : (k : ℕ) (d : g.row.T.Denot) → k < l.i → k < length l.values → get_or l.values k d ≡ (if nat_le l.from k then l.value else get_or l.initial.values k d);
}
