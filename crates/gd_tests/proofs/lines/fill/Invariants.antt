use Rattle.std.proofs.Common.{◌≤◌, All}
use Rattle.gd_tests.proofs.lines.fill.Given as goal

-- No nomination so far is for a later cycle.
abbrev pub invariant-loop-at : goal.invariant-loop-at
invariant-loop-at g l = All (λ former. former.cycle ≤ l.cycle) l.lines
