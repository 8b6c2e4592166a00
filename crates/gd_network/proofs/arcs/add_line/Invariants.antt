use Rattle.gd_network.specs.Arcs.{tenth_arc}
use Rattle.gd_network.specs.Entries.{FirstArcs}
use Rattle.gd_network.proofs.arcs.add_line.Given as goal

abbrev pub invariant-loop-tenth : goal.invariant-loop-tenth
invariant-loop-tenth l = FirstArcs l.question.asked (tenth_arc l.question.asked l.line l.tenth) l.arcs.items
