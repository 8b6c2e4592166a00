use Rattle.std.proofs.Common.{ℕ, ◌+◌, ◌<◌, get_or}
use Rattle.gd_calendar.proofs.calendar.rises.Given as goal

abbrev pub invariant-loop-i : goal.invariant-loop-i
invariant-loop-i l = (k : ℕ) → k + 1 < l.i → get_or l.moments k 0 < get_or l.moments (k + 1) 0
