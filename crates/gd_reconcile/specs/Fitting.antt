-- When receipts fit the history of a book.
-- They stand in lists, one list for each holder. Lists and the places in a list count from 0.
use Rattle.std.specs.Prelude.{◌≡◌, ◌⊎◌, ℕ, ◌+◌, ◌-◌, ◌<◌, ◌≤◌, List, length, map, slice_get, Option, Some, None}
use Rattle.std.specs.Global.{Vec}
use Rattle.gd_machine.specs.declared.event.Event.{Event}
use Rattle.gd_machine.specs.Day.{Day}
use Rattle.gd_machine.specs.History.{History}
use Rattle.gd_machine.specs.Steps.{Fits}
use Rattle.gd_office_part.specs.declared.kept.Receipt.{Receipt}
use Rattle.gd_office_part.specs.declared.kept.Told.{Told}
use Rattle.gd_office_part.specs.declared.kept.Told.TheVariants.{Accepted, Refused}

-- ---- places

-- The receipts of lists.
abbrev pub lists_of : List (Vec Receipt) → List (List Receipt)
lists_of lists = map (λ v. v.items) lists

abbrev pub in_list : ℕ → Option (List Receipt) → Option Receipt
in_list i None = None
in_list i (Some list) = slice_get list i

-- The receipt at place i of list l.
abbrev pub receipt_at : List (List Receipt) → ℕ → ℕ → Option Receipt
receipt_at lists l i = in_list i (slice_get lists l)

abbrev pub event_number : Told → Option ℕ
event_number (Accepted n reply) = Some n
event_number (Refused k refusal) = None

abbrev pub refusal_length : Told → Option ℕ
refusal_length (Accepted n reply) = None
refusal_length (Refused k refusal) = Some k

abbrev pub number_in : Option Receipt → Option ℕ
number_in None = None
number_in (Some r) = event_number r.told

abbrev pub length_in : Option Receipt → Option ℕ
length_in None = None
length_in (Some r) = refusal_length r.told

-- The number of an accepted receipt, and the length that a refused one tells.
abbrev pub number_at : List (List Receipt) → ℕ → ℕ → Option ℕ
number_at lists l i = number_in (receipt_at lists l i)

abbrev pub length_at : List (List Receipt) → ℕ → ℕ → Option ℕ
length_at lists l i = length_in (receipt_at lists l i)

-- Place j of list a comes before place i of list l.
abbrev pub Before : ℕ → ℕ → ℕ → ℕ → Type 0
Before a j l i = (a < l) ⊎ ((a ≡ l) × (j < i))

-- ---- receipts

-- An accepted event stands at its number, from 1, with its reply. A refusal is a possible answer of the machine after the first events, as many as it tells.
abbrev pub FitsAlone : Day → History → Event → Told → Type 0
FitsAlone day h event (Accepted n reply) = (1 ≤ n) × (slice_get h (n - 1) ≡ Some (event, reply))
FitsAlone day h event (Refused k refusal) = Fits day h k event refusal

-- Of two receipts of one list, the first before the second: numbers rise, lengths don't fall, and no length is below a number before it or at or above a number after it.
abbrev pub InOrder : Told → Told → Type 0
InOrder (Accepted n reply) (Accepted m other) = n < m
InOrder (Accepted n reply) (Refused k refusal) = n ≤ k
InOrder (Refused k refusal) (Accepted n reply) = k < n
InOrder (Refused k refusal) (Refused m other) = k ≤ m

-- The receipts before place i of list l fit the history: each for itself, no two with one number, and those of each list in order.
pub record FitTo (day : Day) (h : History) (lists : List (List Receipt)) (l i : ℕ) : Type 0 where
  pub alone : (a j : ℕ) (r : Receipt) → Before a j l i → receipt_at lists a j ≡ Some r → FitsAlone day h r.event r.told
  pub once : (a j b k n : ℕ) → Before a j b k → Before b k l i → number_at lists a j ≡ Some n → number_at lists b k ≡ Some n → ⊥
  pub order : (a j k : ℕ) (r s : Receipt) → j < k → Before a k l i → receipt_at lists a j ≡ Some r → receipt_at lists a k ≡ Some s → InOrder r.told s.told

-- All receipts of the lists fit the history.
abbrev pub Fit : Day → History → List (List Receipt) → Type 0
Fit day h lists = FitTo day h lists (length lists) 0

-- There is a receipt at place i of list l, and it is the first that does not fit together with those before it. So not all fit.
pub record IsFirstMisfit (day : Day) (h : History) (lists : List (List Receipt)) (l i : ℕ) : Type 0 where
  pub there : (r : Receipt) × (receipt_at lists l i ≡ Some r)
  pub before : FitTo day h lists l i
  pub breaks : FitTo day h lists l (i + 1) → ⊥
  pub misfit : Fit day h lists → ⊥
