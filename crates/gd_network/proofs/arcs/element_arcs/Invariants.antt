use Rattle.gd_network.specs.Entries.{FirstArcs}
use Rattle.gd_network.proofs.arcs.element_arcs.Given as goal

abbrev pub invariant-loop-at : goal.invariant-loop-at
invariant-loop-at l = FirstArcs l.question.asked l.at l.arcs.items
