use Rattle.std.proofs.Common.{◌+◌, ◌*◌, length}
use Rattle.gd_network.specs.Entries.{FirstArcs}
use Rattle.gd_network.proofs.arcs.arcs_of.Given as goal

abbrev pub invariant-loop-line : goal.invariant-loop-line
invariant-loop-line l = FirstArcs l.question.asked (length l.question.asked.elements + 10 * l.line) l.arcs.items
