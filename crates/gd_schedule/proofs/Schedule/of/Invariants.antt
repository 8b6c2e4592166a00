use Rattle.std.proofs.Common.{ℕ, ◌<◌, ◌≤◌}
use Rattle.gd_rules.specs.Schedule.{quantity}
use Rattle.gd_schedule.proofs.Schedule.of.Given as goal

-- The quantities read so far are small.
abbrev pub invariant-loop-quantity : goal.invariant-loop-quantity
invariant-loop-quantity l = (i : ℕ) → i < l.quantity-index → quantity l.quantity-items i ≤ 1000000000
