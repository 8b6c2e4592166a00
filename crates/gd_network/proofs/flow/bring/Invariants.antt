use Rattle.std.proofs.Common.{◌≡◌, take}
use Rattle.gd_network.specs.Beginning.{clamped_schedule}
use Rattle.gd_network.proofs.flow.bring.Given as goal

abbrev pub invariant-loop-line : goal.invariant-loop-line
invariant-loop-line l = l.quantities.items ≡ clamped_schedule (take l.line l.question.asked.lines) l.schedule
