use Rattle.gd_network.proofs.LineSums.{Summed}
use Rattle.gd_network.proofs.flow.schedule_of.Given as goal

abbrev pub invariant-loop-line : goal.invariant-loop-line
invariant-loop-line l = Summed l.question.asked l.flow l.line l.quantities.items
