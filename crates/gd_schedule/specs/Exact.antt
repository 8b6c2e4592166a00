-- What an exact check of a schedule answers.
use Rattle.std.specs.Prelude.{◌≡◌, ◌≢◌, ℕ, ℤ, pos, ◌≤◌, ◌≤ℤ◌, List, length, Option, Some, None}
use Rattle.gd_rules.specs.Question.{Question, element, line}
use Rattle.gd_question.specs.Known.{limit_of}
use Rattle.gd_rules.specs.Schedule.{IsAllowed, load, quantity}
use Rattle.gd_schedule.specs.First.{Each, FailsFirst}
use Rattle.gd_schedule.specs.declared.Broken.{Broken}
use Rattle.gd_schedule.specs.declared.Broken.TheVariants.{Shape, BelowFloor, AboveCeiling, OverCapacity, Unbalanced, OutOfMemory}

-- A load is at most its limit. A pool has none.
abbrev pub WithinLimit : Option ℕ → ℤ → Type 0
WithinLimit None load = Unit {0}
WithinLimit (Some capacity) load = load ≤ℤ pos capacity

-- The load of a pool, which has no limit, is 0.
abbrev pub IsBalanced : Option ℕ → ℤ → Type 0
IsBalanced None load = load ≡ pos 0
IsBalanced (Some capacity) load = Unit {0}

module _ (q : Question) (schedule : List ℕ) where
  abbrev pub KeepsFloor : ℕ → Type 0
  KeepsFloor i = (line q i).floor ≤ quantity schedule i

  abbrev pub KeepsCeiling : ℕ → Type 0
  KeepsCeiling i = quantity schedule i ≤ (line q i).ceiling

  abbrev pub KeepsCapacity : ℕ → Type 0
  KeepsCapacity e = WithinLimit (limit_of (element q e)) (load q schedule e)

  abbrev pub KeepsBalance : ℕ → Type 0
  KeepsBalance e = IsBalanced (limit_of (element q e)) (load q schedule e)

  abbrev pub Shaped : Type 0
  Shaped = length schedule ≡ length q.lines

  abbrev pub Bounded : Type 0
  Bounded = Shaped × Each (length q.lines) KeepsFloor × Each (length q.lines) KeepsCeiling

  -- What is broken, and all that is checked before it holds.
  abbrev pub Explains : Broken → Type 0
  Explains Shape = length schedule ≢ length q.lines
  Explains (BelowFloor i) = Shaped × FailsFirst (length q.lines) KeepsFloor i
  Explains (AboveCeiling i) = Shaped × Each (length q.lines) KeepsFloor × FailsFirst (length q.lines) KeepsCeiling i
  Explains (OverCapacity e) = Bounded × FailsFirst (length q.elements) KeepsCapacity e.0
  Explains (Unbalanced e) = Bounded × Each (length q.elements) KeepsCapacity × FailsFirst (length q.elements) KeepsBalance e.0
  Explains OutOfMemory = Bounded

-- A fault that is told is one of the schedule: it isn't allowed.
abbrev pub FaultsAreBroken : Type 0
FaultsAreBroken = (q : Question) (schedule : List ℕ) (b : Broken) → b ≢ OutOfMemory → Explains q schedule b → IsAllowed q schedule → ⊥
