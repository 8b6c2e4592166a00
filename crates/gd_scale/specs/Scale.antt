-- What costs are counted in: values that can be added, and compared.
use Rattle.std.specs.Prelude.{◌≡◌, ◌≢◌, ℕ, zero, suc, ℤ, pos, negsuc}
use Rattle.std.specs.declared.cmp.Ordering.{Ordering}
use Rattle.std.specs.declared.cmp.Ordering.TheVariants.{Greater}
use Rattle.gd_scale.specs.Sum.{sum_below}

pub record Scale (V : Type 0) : Type 0 where
  pub none : V
  pub plus : V → V → V
  pub minus : V → V
  pub order : V → V → Ordering

-- x n times
abbrev pub repeated : {V : Type 0} → Scale V → ℕ → V → V
repeated s zero x = s.none
repeated s (suc n) x = s.plus (repeated s n x) x

-- x as often as a whole number says
abbrev pub multiple : {V : Type 0} → Scale V → ℤ → V → V
multiple s (pos n) x = repeated s n x
multiple s (negsuc n) x = s.minus (repeated s (suc n) x)

abbrev pub total_below : {V : Type 0} → Scale V → ℕ → (ℕ → V) → V
total_below s n f = sum_below s.none s.plus n f

abbrev pub AtMost : {V : Type 0} → Scale V → V → V → Type 0
AtMost s x y = s.order x y ≢ Greater

abbrev pub IsAbove : {V : Type 0} → Scale V → V → V → Type 0
IsAbove s x y = s.order x y ≡ Greater
