-- A floor is at least the elapsed quantity.
use Rattle.std.proofs.Common.{ℕ, ◌≤◌, Bool, true, false, arith}
use Rattle.gd_rules.specs.Bounds.{floor, protected, line_floor}

any_floor_above : (b : Bool) (gone former ceiling : ℕ) → gone ≤ floor b gone former ceiling
any_floor_above true gone former ceiling = omega arith
any_floor_above false gone former ceiling = omega arith

pub floor_above : (cycle class : ℕ) (waived : Bool) (gone former ceiling : ℕ) → gone ≤ line_floor cycle class waived gone former ceiling
floor_above cycle class waived gone former ceiling = any_floor_above (protected cycle class waived) gone former ceiling
