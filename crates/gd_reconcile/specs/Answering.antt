-- Which refusals the machine could answer, taken in the order of their lengths.
use Rattle.std.specs.Prelude.{◌≡◌, ℕ, ◌+◌, ◌<◌, ◌≤◌, List, length, take, slice_index_or, Contains, All, Option, Some, None}
use Rattle.gd_machine.specs.declared.event.Event.{Event}
use Rattle.gd_machine.specs.Day.{Day}
use Rattle.gd_machine.specs.History.{History}
use Rattle.gd_machine.specs.Steps.{MayRefuse}
use Rattle.gd_office_part.specs.declared.kept.Receipt.{Receipt}
use Rattle.gd_office_part.specs.declared.kept.Told.{Told}
use Rattle.gd_office_part.specs.declared.kept.Told.TheVariants.{Accepted, Refused}
use Rattle.gd_reconcile.specs.declared.mismatch.Mismatch.{Mismatch}
use Rattle.gd_reconcile.specs.declared.refusals.Query.{Query}
use Rattle.gd_reconcile.specs.Fitting.{Before, receipt_at, length_at}

-- ---- what is looked for

-- Where a refusal's length is within the history's, the refusal is a possible answer there.
abbrev pub Answers : Day → History → Event → Told → Type 0
Answers day h event (Accepted n reply) = Unit {0}
Answers day h event (Refused k refusal) = k ≤ length h → MayRefuse day (take k h) event refusal

-- So it is with each receipt before place i of list l.
abbrev pub AnswerTo : Day → History → List (List Receipt) → ℕ → ℕ → Type 0
AnswerTo day h lists l i = (a j : ℕ) (r : Receipt) → Before a j l i → receipt_at lists a j ≡ Some r → Answers day h r.event r.told

-- The first place that breaks this.
pub record IsFirstWrong (day : Day) (h : History) (lists : List (List Receipt)) (l i : ℕ) : Type 0 where
  pub there : (r : Receipt) × (receipt_at lists l i ≡ Some r)
  pub before : AnswerTo day h lists l i
  pub breaks : AnswerTo day h lists l (i + 1) → ⊥

-- ---- queries

abbrev pub AnswersIn : Day → History → Option Receipt → Type 0
AnswersIn day h None = Unit {0}
AnswersIn day h (Some r) = Answers day h r.event r.told

-- What is said of the receipt at a place, if there is one.
abbrev pub AnswersAt : Day → History → List (List Receipt) → ℕ → ℕ → Type 0
AnswersAt day h lists a j = AnswersIn day h (receipt_at lists a j)

-- There is a refusal of that length at that place, and the length is at most this.
abbrev pub IsQuery : ℕ → List (List Receipt) → Query → Type 0
IsQuery most lists q = (q.length ≤ most) × (q.list < length lists) × (length_at lists q.list q.index ≡ Some q.length)

-- The queries are those of the refusals before place i of list l.
pub record AreQueries (most : ℕ) (lists : List (List Receipt)) (l i : ℕ) (queries : List Query) : Type 0 where
  pub real : All (IsQuery most lists) queries
  pub each : (a j k : ℕ) → Before a j l i → length_at lists a j ≡ Some k → k ≤ most → Contains queries (record { length = k; list = a; index = j })

-- ---- the first place that is wrong

-- The place is before that one, if there is one.
abbrev pub IsBefore : ℕ → ℕ → Option Mismatch → Type 0
IsBefore a j None = Unit {0}
IsBefore a j (Some m) = Before a j m.list m.index

-- Of the first queries none is wrong whose place is before that one, and the refusal at that place is wrong.
pub record LeastWrong (day : Day) (h : History) (lists : List (List Receipt)) (queries : List Query) (done : ℕ) (least : Option Mismatch) : Type 0 where
  pub below : (e : ℕ) (q : Query) → e < done → slice_index_or queries e q ≡ q → IsBefore q.list q.index least → AnswersAt day h lists q.list q.index
  pub wrong : (m : Mismatch) → least ≡ Some m → AnswersAt day h lists m.list m.index → ⊥
