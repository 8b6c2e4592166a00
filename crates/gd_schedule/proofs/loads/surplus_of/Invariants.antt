use Rattle.gd_schedule.specs.Surplus.{IsSurplus}
use Rattle.gd_schedule.proofs.loads.surplus_of.Given as goal

-- The lines so far have made it.
abbrev pub invariant-loop-line : goal.invariant-loop-line
invariant-loop-line l = IsSurplus l.question.asked l.schedule l.line l.surplus.items
