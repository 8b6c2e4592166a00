use Rattle.std.proofs.Common.{◌≡◌, ◌+◌, ◌≤◌, length}
use Rattle.std.specs.Prelude.{◌==◌}
use Rattle.std.specs.List.{count_by}
use Rattle.gd_tree.specs.Grown.{route_of}
use Rattle.gd_tree.proofs.Tree.passes.Given as goal

-- The segment stands on the way as often as on what is left of it.
abbrev pub invariant-loop-step : goal.invariant-loop-step
invariant-loop-step l = record {
  a_known : l.a ≤ length l.self;
  b_known : l.b ≤ length l.self;
  left : count_by (λ k. k == l.segment) (route_of l.self (length l.self) l.a l.b) ≡ count_by (λ k. k == l.segment) (route_of l.self (length l.self) l.from l.to);
}

abbrev pub decreases-loop-step : goal.decreases-loop-step
decreases-loop-step l = l.a + l.b
