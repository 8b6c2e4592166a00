use Rattle.gd_schedule.specs.First.{Each}
use Rattle.gd_schedule.specs.Exact.{KeepsCeiling}
use Rattle.gd_schedule.proofs.allowed.first_above.Given as goal

-- The lines so far are right.
abbrev pub invariant-loop-line : goal.invariant-loop-line
invariant-loop-line l = Each l.line (KeepsCeiling l.question.asked l.schedule)
