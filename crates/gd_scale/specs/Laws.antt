-- What holds of values that can be added and compared.
use Rattle.std.specs.Prelude.{◌≡◌, ℕ, ◌<◌, ℤ, pos, Bool, true, ◌+ℤ◌, ◌*ℤ◌, ◌≤ℤ◌, unsigned_abs}
use Rattle.std.specs.Ordering.{nat_cmp}
use Rattle.std.specs.Cmp.{IsTotalOrder}
use Rattle.gd_scale.specs.Scale.{Scale, multiple}

-- A commutative group with an order that adding keeps, total up to values that it finds equal.
pub record IsLawful {V : Type 0} (s : Scale V) : Type 0 where
  pub commutes : (x y : V) → s.plus x y ≡ s.plus y x
  pub associates : (x y z : V) → s.plus (s.plus x y) z ≡ s.plus x (s.plus y z)
  pub neutral : (x : V) → s.plus x s.none ≡ x
  pub inverse : (x : V) → s.plus x (s.minus x) ≡ s.none
  pub total : IsTotalOrder s.order
  pub kept : (x y z : V) → s.order (s.plus x z) (s.plus y z) ≡ s.order x y

-- x without y
abbrev pub less : {V : Type 0} → Scale V → V → V → V
less s x y = s.plus x (s.minus y)

-- Which values fit a bound, and how bounds add up.
pub record IsBounded {V : Type 0} (s : Scale V) (fits : ℤ → V → Bool) : Type 0 where
  pub none : fits (pos 0) s.none ≡ true
  pub wider : (a b : ℤ) (x : V) → a ≤ℤ b → fits a x ≡ true → fits b x ≡ true
  pub plus : (a b : ℤ) (x y : V) → fits a x ≡ true → fits b y ≡ true → fits (a +ℤ b) (s.plus x y) ≡ true
  pub minus : (a : ℤ) (x : V) → fits a x ≡ true → fits a (s.minus x) ≡ true
  pub multiple : (a : ℤ) (k : ℤ) (x : V) → fits a x ≡ true → fits (a *ℤ pos (unsigned_abs k)) (multiple s k x) ≡ true

-- The values that fit a bound have ranks below a size, in their order.
pub record IsRanked {V : Type 0} (s : Scale V) (fits : ℤ → V → Bool) (size : ℕ → ℕ) (rank : ℕ → V → ℕ) : Type 0 where
  pub below : (b : ℕ) (x : V) → fits (pos b) x ≡ true → rank b x < size b
  pub in_order : (b : ℕ) (x y : V) → fits (pos b) x ≡ true → fits (pos b) y ≡ true → nat_cmp (rank b x) (rank b y) ≡ s.order x y
