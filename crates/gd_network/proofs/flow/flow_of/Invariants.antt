use Rattle.std.proofs.Common.{◌+◌, ◌*◌, length}
use Rattle.gd_network.specs.Entries.{FirstFlows}
use Rattle.gd_network.proofs.flow.flow_of.Given as goal

abbrev pub invariant-loop-line : goal.invariant-loop-line
invariant-loop-line l = FirstFlows l.question.asked l.schedule (length l.question.asked.elements + 10 * l.line) l.amounts.items
