use Rattle.std.proofs.Common.{◌≡◌, ◌≢◌, ℕ, ◌<◌, ◌≤◌, Bool, length, get_or, drop, ◌+ℤ◌, ◌≤ℤ◌, FitsSigned}
use Rattle.std.specs.Int.{w64}
use Rattle.gd_network.specs.Arcs.{lower_at, upper_at}
use Rattle.gd_network.specs.Flow.{flow_at, net}
use Rattle.gd_question.specs.Nodes.{inside_part}
use Rattle.gd_network.specs.Steps.{room, moved, pushed, Follows, amiss}
use Rattle.gd_network.specs.declared.walks.Step.{Step}
use Rattle.gd_network.proofs.walks.push.Given as goal

abbrev pub invariant-loop-step : goal.invariant-loop-step
invariant-loop-step l = record {
  size : length l.flow ≡ length l.network.arcs;
  fits : (i : ℕ) → FitsSigned w64 (flow_at l.flow i);
  rooms : (k : ℕ) (s : Step) → l.step-index ≤ k → k < length l.walk → l.amount ≤ℤ room l.network.arcs l.flow (get_or l.walk k s);
  done : pushed l.flow (drop l.step-index l.walk) l.amount ≡ pushed l.initial.flow l.walk l.amount;
  carries : (a b : ℕ) → Follows l.network.arcs a l.walk b → (at : ℕ) × Follows l.network.arcs at (drop l.step-index l.walk) b
      × ((inside : ℕ → Bool) → net inside l.network.arcs l.flow +ℤ inside_part (inside a) l.amount ≡ net inside l.network.arcs l.initial.flow +ℤ inside_part (inside at) l.amount);
  still : (i : ℕ) → ((k : ℕ) (s : Step) → k < l.step-index → (get_or l.walk k s).arc ≢ i) → flow_at l.flow i ≡ flow_at l.initial.flow i;
  single : (k : ℕ) (s : Step) → k < l.step-index → k < length l.walk → ((j : ℕ) (t : Step) → j < length l.walk → j ≢ k → (get_or l.walk j t).arc ≢ (get_or l.walk k s).arc) → flow_at l.flow (get_or l.walk k s).arc ≡ moved l.initial.flow (get_or l.walk k s) l.amount;
  nearer : (i : ℕ) → amiss (lower_at l.network.arcs i) (upper_at l.network.arcs i) (flow_at l.flow i) ≤ amiss (lower_at l.network.arcs i) (upper_at l.network.arcs i) (flow_at l.initial.flow i);
}
