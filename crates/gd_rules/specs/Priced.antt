-- Prices that show a schedule best (linear programming duality over an ordered group).
use Rattle.std.specs.Prelude.{◌≡◌, ℕ, ◌+◌, ◌<◌, ℤ, pos, List, length, get_or}
use Rattle.gd_scale.specs.Scale.{Scale, total_below, multiple, AtMost, IsAbove}
use Rattle.gd_rules.specs.Question.{Element, Line, Question, element, line, crossing}
use Rattle.gd_rules.specs.Question.Element.{Segment, Receipt, Delivery, Pool}
use Rattle.gd_rules.specs.Schedule.{quantity, load}
use Rattle.gd_rules.specs.Spread.{tenth_of}

abbrev pub price : {V : Type 0} → Scale V → List V → ℕ → V
price s prices e = get_or prices e s.none

-- The sum over all elements of crossing times price.
abbrev pub crossed : {V : Type 0} → Scale V → Question → List V → ℕ → V
crossed s q prices i = total_below s (length q.elements) (λ e. multiple s (crossing q i e) (price s prices e))

-- What a line's dekatherm d is worth: unit class tenth.
abbrev pub worth_of : {V : Type 0} → (ℕ → ℕ → V) → Line → ℕ → V
worth_of unit l d = unit l.class (tenth_of l.ceiling d)

-- What dekatherm d of line i is worth, less the prices that the line crosses.
abbrev pub margin : {V : Type 0} → Scale V → (ℕ → ℕ → V) → Question → List V → ℕ → ℕ → V
margin s unit q prices i d = s.plus (worth_of unit (line q i) d) (s.minus (crossed s q prices i))

-- A price above zero only where the load is the capacity, below zero only where the load is 0. A pool's price is free.
abbrev pub Clears : {V : Type 0} → Scale V → Element → ℤ → V → Type 0
Clears s (Segment from to capacity) load p = (IsAbove s p s.none → load ≡ pos capacity) × (IsAbove s s.none p → load ≡ pos 0)
Clears s (Receipt place capacity) load p = (IsAbove s p s.none → load ≡ pos capacity) × (IsAbove s s.none p → load ≡ pos 0)
Clears s (Delivery place capacity) load p = (IsAbove s p s.none → load ≡ pos capacity) × (IsAbove s s.none p → load ≡ pos 0)
Clears s (Pool place) load p = Unit {0}

-- The schedule clears at the prices: every element's price fits its load, and no line would gain by one dekatherm more or less.
pub record IsPriced {V : Type 0} (s : Scale V) (unit : ℕ → ℕ → V) (q : Question) (schedule : List ℕ) (prices : List V) : Type 0 where
  pub shape : length prices ≡ length q.elements
  pub clears : (e : ℕ) → e < length q.elements → Clears s (element q e) (load q schedule e) (price s prices e)
  -- Below the ceiling the next dekatherm's margin is not above zero.
  pub next : (i : ℕ) → i < length q.lines → quantity schedule i < (line q i).ceiling → AtMost s (margin s unit q prices i (quantity schedule i + 1)) s.none
  -- Above the floor the last dekatherm's margin is not below zero.
  pub last : (i : ℕ) → i < length q.lines → (line q i).floor < quantity schedule i → AtMost s s.none (margin s unit q prices i (quantity schedule i))

-- What all dekatherms of all lines are worth together.
abbrev pub worth : {V : Type 0} → Scale V → (ℕ → ℕ → V) → Question → List ℕ → V
worth s unit q schedule = total_below s (length q.lines) (λ i. total_below s (quantity schedule i) (λ d. worth_of unit (line q i) (d + 1)))
