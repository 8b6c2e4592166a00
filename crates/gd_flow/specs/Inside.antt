-- What the fields of a feasible flow stand for.
use Rattle.gd_flow.specs.Feasible.{Flowing, IsFeasible}
use Rattle.gd_flow.specs.declared.feasible.Feasible.TheInside.{Inside}

abbrev pub flowing_of : Inside → Flowing
flowing_of f = record { question = f.network.question; arcs = f.network.arcs; flow = f.flow }

-- It balances within bounds.
abbrev pub flows : Inside → Type 0
flows f = IsFeasible f.network.arcs f.flow
