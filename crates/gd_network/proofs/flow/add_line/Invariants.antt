use Rattle.gd_network.specs.Arcs.{tenth_arc}
use Rattle.gd_network.specs.Entries.{FirstFlows}
use Rattle.gd_network.proofs.flow.add_line.Given as goal

abbrev pub invariant-loop-tenth : goal.invariant-loop-tenth
invariant-loop-tenth l = FirstFlows l.question.asked l.schedule (tenth_arc l.question.asked l.line l.tenth) l.amounts.items
