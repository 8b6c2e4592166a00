-- Earlier places on the way from a place, and on the way to it.
use Rattle.std.specs.Prelude.{◌≡◌, ℕ, ◌≤◌, List, length}
use Rattle.gd_rules.specs.Question.{Element}
use Rattle.gd_tree.specs.declared.Lift.{Lift}
use Rattle.gd_tree.specs.Grown.{has_route}

-- From v gas flows on to places no later than u just where it does from u.
pub record LiftsUp (elements : List Element) (v u : ℕ) : Type 0 where
  pub below : u ≤ v
  pub same : (b : ℕ) → b ≤ u → has_route elements (length elements) v b ≡ has_route elements (length elements) u b

-- To v gas flows from places no later than d just where it does to d.
pub record LiftsDown (elements : List Element) (v d : ℕ) : Type 0 where
  pub below : d ≤ v
  pub same : (a : ℕ) → a ≤ d → has_route elements (length elements) a v ≡ has_route elements (length elements) a d

pub record IsLift (elements : List Element) (v : ℕ) (l : Lift) : Type 0 where
  pub up : LiftsUp elements v l.up
  pub down : LiftsDown elements v l.down
