use Rattle.std.proofs.Common.{◌≡◌, ◌≢◌, ℕ, ◌+◌, ◌<◌, length, get_or, true, false}
use Rattle.gd_network.specs.declared.walks.Step.{Step}
use Rattle.gd_network.specs.Steps.{head_of}
use Rattle.gd_mincost.proofs.found.is_once.Given as goal

abbrev pub invariant-loop-step : goal.invariant-loop-step
invariant-loop-step l = record {
  size : length l.marks.items ≡ length l.network.question.asked.elements + 1;
  marked : (k : ℕ) (s : Step) → k < l.step-index → k < length l.walk → get_or l.marks.items (head_of l.network.arcs (get_or l.walk k s)) false ≡ true;
  apart : (j k : ℕ) (s : Step) → j < k → k < l.step-index → k < length l.walk → head_of l.network.arcs (get_or l.walk j s) ≢ head_of l.network.arcs (get_or l.walk k s);
}
