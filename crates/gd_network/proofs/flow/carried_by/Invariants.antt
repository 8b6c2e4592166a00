use Rattle.gd_network.proofs.LineSums.{IsSum}
use Rattle.gd_network.proofs.flow.carried_by.Given as goal

abbrev pub invariant-loop-tenth : goal.invariant-loop-tenth
invariant-loop-tenth l = IsSum l.flow l.elements l.line l.tenth l.sum
