use Rattle.std.proofs.Common.{◌≡◌, ℕ, Bool, true, false, refl}
use Rattle.gd_rules.specs.Bounds.{elapsed, line_floor}
use Rattle.gd_rules.proofs.floors.timely_has_no_floors.Goals as goal

none : (passed : ℕ → ℕ) (day : ℕ) (scheduled : ℕ → ℕ) (class : ℕ) (waived : Bool) (former ceiling : ℕ) → line_floor 1 class waived (elapsed passed day scheduled 1) former ceiling ≡ 0
none passed day scheduled class true former ceiling = refl
none passed day scheduled class false former ceiling = refl

pub returns : goal.returns
returns c = none
