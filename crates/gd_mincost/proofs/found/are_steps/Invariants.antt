use Rattle.std.proofs.Common.{ℕ, ◌<◌, length, get_or}
use Rattle.gd_network.specs.declared.walks.Step.{Step}
use Rattle.gd_mincost.proofs.found.are_steps.Given as goal

abbrev pub invariant-loop-step : goal.invariant-loop-step
invariant-loop-step l = (k : ℕ) (s : Step) → k < l.step-index → k < length l.walk → (get_or l.walk k s).arc < length l.network.arcs
