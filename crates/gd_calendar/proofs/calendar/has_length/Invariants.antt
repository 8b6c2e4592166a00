use Rattle.std.proofs.Common.{◌≡◌, ℕ, ◌+◌, ◌*◌, ◌<◌, ◌≤◌}
use Rattle.gd_calendar.proofs.calendar.has_length.Given as goal

abbrev pub invariant-loop-hours : goal.invariant-loop-hours
invariant-loop-hours l = (h : ℕ) → 23 ≤ h → h < l.hours → l.finish ≡ l.start + 3600 * h → ⊥
