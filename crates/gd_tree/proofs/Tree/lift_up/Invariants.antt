use Rattle.std.proofs.Common.{◌≡◌, ◌≤◌, length}
use Rattle.gd_tree.specs.Grown.{has_route}
use Rattle.gd_tree.specs.Lifts.{LiftsUp}
use Rattle.gd_tree.proofs.Tree.lift_up.Given as goal

-- The lifts so far leave as much of a way as there was.
abbrev pub invariant-loop-up : goal.invariant-loop-up
invariant-loop-up l = record {
  below : l.at ≤ l.from;
  next : LiftsUp l.self l.at l.up;
  same : has_route l.self (length l.self) l.at l.to ≡ has_route l.self (length l.self) l.from l.to;
}

abbrev pub decreases-loop-up : goal.decreases-loop-up
decreases-loop-up l = l.at
