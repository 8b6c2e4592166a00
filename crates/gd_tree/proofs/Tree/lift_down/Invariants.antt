use Rattle.std.proofs.Common.{◌≡◌, ◌≤◌, length}
use Rattle.gd_tree.specs.Grown.{has_route}
use Rattle.gd_tree.specs.Lifts.{LiftsDown}
use Rattle.gd_tree.proofs.Tree.lift_down.Given as goal

-- The lifts so far leave as much of a way as there was.
abbrev pub invariant-loop-down : goal.invariant-loop-down
invariant-loop-down l = record {
  below : l.at ≤ l.to;
  next : LiftsDown l.self l.at l.down;
  same : has_route l.self (length l.self) l.from l.at ≡ has_route l.self (length l.self) l.from l.to;
}

abbrev pub decreases-loop-down : goal.decreases-loop-down
decreases-loop-down l = l.at
