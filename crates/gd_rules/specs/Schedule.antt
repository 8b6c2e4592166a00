-- Schedules: which are allowed, and which is better by class totals (the stated tariff).
use Rattle.std.specs.Prelude.{◌≡◌, ℕ, ◌<◌, ◌≤◌, ℤ, pos, ◌*ℤ◌, ◌≤ℤ◌, List, length, get_or, ◌==◌, if◌then◌else◌}
use Rattle.gd_scale.specs.Sum.{sum_nat, sum_int}
use Rattle.gd_rules.specs.Question.{Element, Question, element, line, crossing}
use Rattle.gd_rules.specs.Question.Element.{Segment, Receipt, Delivery, Pool}
use Rattle.gd_rules.specs.Limits.{classes}

-- A schedule is a quantity for each line.
abbrev pub quantity : List ℕ → ℕ → ℕ
quantity schedule i = get_or schedule i 0

-- The sum over all lines of crossing times quantity.
abbrev pub load : Question → List ℕ → ℕ → ℤ
load q schedule e = sum_int (length q.lines) (λ i. crossing q i e *ℤ pos (quantity schedule i))

-- The load of a segment or point is at most its capacity. That of a pool is 0: as much goes in as comes out (own).
abbrev pub Holds : Element → ℤ → Type 0
Holds (Segment from to capacity) load = load ≤ℤ pos capacity
Holds (Receipt place capacity) load = load ≤ℤ pos capacity
Holds (Delivery place capacity) load = load ≤ℤ pos capacity
Holds (Pool place) load = load ≡ pos 0

-- Each line's quantity lies between floor and ceiling, and each element holds its load.
pub record IsAllowed (q : Question) (schedule : List ℕ) : Type 0 where
  pub shape : length schedule ≡ length q.lines
  pub floors : (i : ℕ) → i < length q.lines → (line q i).floor ≤ quantity schedule i
  pub ceilings : (i : ℕ) → i < length q.lines → quantity schedule i ≤ (line q i).ceiling
  pub loads : (e : ℕ) → e < length q.elements → Holds (element q e) (load q schedule e)

-- The sum of the quantities of a class's lines.
abbrev pub class_total : Question → List ℕ → ℕ → ℕ
class_total q schedule class = sum_nat (length q.lines) (λ i. if (line q i).class == class then quantity schedule i else 0)

-- At the first class where the totals of a and b differ, that of a is the greater.
abbrev pub HasBetterTotals : Question → List ℕ → List ℕ → Type 0
HasBetterTotals q a b = (class : ℕ) × (1 ≤ class) × (class ≤ classes) × ((c : ℕ) → 1 ≤ c → c < class → class_total q a c ≡ class_total q b c) × (class_total q b class < class_total q a class)
