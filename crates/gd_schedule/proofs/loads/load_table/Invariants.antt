use Rattle.std.proofs.Common.{length, ◌-◌}
use Rattle.gd_schedule.specs.Surplus.{IsPassedOn}
use Rattle.gd_schedule.proofs.loads.load_table.Given as goal

-- So many of the last elements have carried the surplus on.
abbrev pub invariant-loop-done : goal.invariant-loop-done
invariant-loop-done l = IsPassedOn l.question.asked l.schedule (length l.question.asked.elements - l.done) l.surplus.items l.table.items
