use Rattle.gd_network.specs.Steps.{IsNearer, all_amiss}
use Rattle.gd_flow.specs.Keeping.{IsKept}
use Rattle.gd_flow.proofs.mending.mend.Given as goal

abbrev pub invariant-loop-fault : goal.invariant-loop-fault
invariant-loop-fault l = record {
  kept : IsKept l.network.arcs l.flow;
  nearer : IsNearer l.network.arcs l.initial.flow l.flow;
}

abbrev pub decreases-loop-fault : goal.decreases-loop-fault
decreases-loop-fault l = all_amiss l.network.arcs l.flow
