-- What a walk along the lists of receipts finds and keeps.
use Rattle.std.specs.Prelude.{◌≡◌, ◌⊎◌, ℕ, ◌+◌, ◌-◌, ◌<◌, ◌≤◌, List, length, slice_get, slice_index_or, slice_set, Bool, true, false, Some}
use Rattle.gd_machine.specs.declared.event.Event.{Event}
use Rattle.gd_machine.specs.declared.reply.Reply.{Reply}
use Rattle.gd_machine.specs.History.{History}
use Rattle.gd_office_part.specs.declared.kept.Receipt.{Receipt}
use Rattle.gd_office_part.specs.declared.kept.Told.{Told}
use Rattle.gd_office_part.specs.declared.kept.Told.TheVariants.{Accepted, Refused}
use Rattle.gd_reconcile.specs.Fitting.{Before, InOrder, receipt_at, number_at, length_at}

-- ---- what is looked for: all that makes receipts fit but what a refusal answers

-- An accepted event stands at its number with its reply. A refusal's length is no more than the history's.
abbrev pub Stands : History → Event → Told → Type 0
Stands h event (Accepted n reply) = (1 ≤ n) × (slice_get h (n - 1) ≡ Some (event, reply))
Stands h event (Refused k refusal) = k ≤ length h

-- The receipts before place i of list l stand in the history, no two with one number, and those of each list in order.
pub record StandTo (h : History) (lists : List (List Receipt)) (l i : ℕ) : Type 0 where
  pub alone : (a j : ℕ) (r : Receipt) → Before a j l i → receipt_at lists a j ≡ Some r → Stands h r.event r.told
  pub once : (a j b k n : ℕ) → Before a j b k → Before b k l i → number_at lists a j ≡ Some n → number_at lists b k ≡ Some n → ⊥
  pub order : (a j k : ℕ) (r s : Receipt) → j < k → Before a k l i → receipt_at lists a j ≡ Some r → receipt_at lists a k ≡ Some s → InOrder r.told s.told

-- The first place that breaks this.
pub record IsFirstDisorder (h : History) (lists : List (List Receipt)) (l i : ℕ) : Type 0 where
  pub there : (r : Receipt) × (receipt_at lists l i ≡ Some r)
  pub before : StandTo h lists l i
  pub breaks : StandTo h lists l (i + 1) → ⊥

-- ---- one receipt more

-- The event stands at the number with the reply, and the number was not given yet.
pub record StandsNew (h : History) (given : List Bool) (event : Event) (n : ℕ) (reply : Reply) : Type 0 where
  pub counts : 1 ≤ n
  pub stands : slice_get h (n - 1) ≡ Some (event, reply)
  pub fresh : slice_index_or given (n - 1) false ≡ false

-- The receipt may come next in a list whose last number and length these are.
abbrev pub MayFollow : History → List Bool → ℕ → ℕ → Event → Told → Type 0
MayFollow h given number len event (Accepted n reply) = (number < n) × (len < n) × StandsNew h given event n reply
MayFollow h given number len event (Refused k refusal) = (number ≤ k) × (len ≤ k) × (k ≤ length h)

-- What the walk keeps after it: which numbers were given, and the last number and length of the list.
abbrev pub given_after : List Bool → Told → List Bool
given_after given (Accepted n reply) = slice_set given (n - 1) true
given_after given (Refused k refusal) = given

abbrev pub number_after : ℕ → Told → ℕ
number_after number (Accepted n reply) = n
number_after number (Refused k refusal) = number

abbrev pub length_after : ℕ → Told → ℕ
length_after len (Accepted n reply) = len
length_after len (Refused k refusal) = k

-- ---- what the walk knows

abbrev pub IsGivenBefore : List (List Receipt) → ℕ → ℕ → ℕ → Type 0
IsGivenBefore lists l i n = (a : ℕ) × (j : ℕ) × Before a j l i × (number_at lists a j ≡ Some n)

abbrev pub IsNumberBefore : List (List Receipt) → ℕ → ℕ → ℕ → Type 0
IsNumberBefore lists l i n = (j : ℕ) × (j < i) × (number_at lists l j ≡ Some n)

abbrev pub IsLengthBefore : List (List Receipt) → ℕ → ℕ → ℕ → Type 0
IsLengthBefore lists l i k = (j : ℕ) × (j < i) × (length_at lists l j ≡ Some k)

-- The receipts before place i of list l stand; the numbers marked are those that were given; and no number or length of the list so far is above these two.
pub record Walked (h : History) (lists : List (List Receipt)) (l i : ℕ) (given : List Bool) (number len : ℕ) : Type 0 where
  pub stand : StandTo h lists l i
  pub long : length given ≡ length h
  pub marked : (a j n : ℕ) → Before a j l i → number_at lists a j ≡ Some n → slice_index_or given (n - 1) false ≡ true
  pub given_by : (m : ℕ) → slice_index_or given m false ≡ true → IsGivenBefore lists l i (m + 1)
  pub no_less : (j n : ℕ) → j < i → number_at lists l j ≡ Some n → n ≤ number
  pub number_by : (number ≡ 0) ⊎ IsNumberBefore lists l i number
  pub no_shorter : (j k : ℕ) → j < i → length_at lists l j ≡ Some k → k ≤ len
  pub length_by : (len ≡ 0) ⊎ IsLengthBefore lists l i len
