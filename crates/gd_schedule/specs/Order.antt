-- How two schedules compare.
use Rattle.std.specs.Prelude.{◌≡◌, ℕ, ◌-◌, ◌<◌, ◌≤◌, List, length, get_or, ◌↔◌}
use Rattle.std.specs.declared.cmp.Ordering.{Ordering}
use Rattle.std.specs.declared.cmp.Ordering.TheVariants.{Less, Equal, Greater}
use Rattle.gd_rules.specs.Question.{Question}
use Rattle.gd_rules.specs.Schedule.{class_total}
use Rattle.gd_rules.specs.Spread.{IsBetter}
use Rattle.gd_rules.specs.Limits.{classes}

-- At the first class where f a and f b differ, f a is the greater.
abbrev pub IsFirstGreater : (ℕ → ℕ) → (ℕ → ℕ) → Type 0
IsFirstGreater f g = (class : ℕ) × (1 ≤ class) × (class ≤ classes) × ((c : ℕ) → 1 ≤ c → c < class → f c ≡ g c) × (g class < f class)

abbrev pub AreLevel : (ℕ → ℕ) → (ℕ → ℕ) → Type 0
AreLevel f g = (c : ℕ) → 1 ≤ c → c ≤ classes → f c ≡ g c

-- Eight numbers on either side, compared from class 1 on.
abbrev pub IsOrderOf : (ℕ → ℕ) → (ℕ → ℕ) → Ordering → Type 0
IsOrderOf f g Less = IsFirstGreater g f
IsOrderOf f g Equal = AreLevel f g
IsOrderOf f g Greater = IsFirstGreater f g

-- The greater schedule is the better one.
pub record Compares (q : Question) (a b : List ℕ) (order : Ordering) : Type 0 where
  pub greater : (order ≡ Greater) ↔ IsBetter q a b
  pub less : (order ≡ Less) ↔ IsBetter q b a

-- A number for each of the classes 1 to 8, in their order.
pub record IsByClass (f : ℕ → ℕ) (numbers : List ℕ) : Type 0 where
  pub sized : length numbers ≡ classes
  pub each : (class : ℕ) → 1 ≤ class → class ≤ classes → get_or numbers (class - 1) 0 ≡ f class

-- The totals of classes 1 to 8, in their order.
abbrev pub HasTotals : Question → List ℕ → List ℕ → Type 0
HasTotals q schedule totals = IsByClass (class_total q schedule) totals
