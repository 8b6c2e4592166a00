-- What holds of every legal history, so that its question can be asked: the code of a book rests on it.
use Rattle.std.specs.Prelude.{◌≡◌, ℕ, true, ◌<◌, ◌≤◌, All, Some, Ok}
use Rattle.gd_rules.specs.GasDay as gas_day
use Rattle.gd_rules.specs.Bounds as bounds
use Rattle.gd_rules.specs.Lines.{Key}
use Rattle.gd_rules.specs.Limits.{classes, cycles}
use Rattle.gd_system.specs.Route.{ends_of}
use Rattle.gd_system.specs.declared.part.Ends.{Ends}
use Rattle.gd_contracts.specs.Classes.{class_answer}
use Rattle.gd_machine.specs.Day.{Day, cycle_at, length_of}
use Rattle.gd_machine.specs.History.{History, cycle_of, is_frozen, last_stamp, scheduled}
use Rattle.gd_machine.specs.Asking.{nominations, class_in, elapsed_of, former_of, floor_of, confirmed_of}

-- A route leads from the line's origin to its destination.
abbrev pub IsRouted : Day → Key → Type 0
IsRouted day key = (ends : Ends) × (ends_of day.holdings.pipeline key.origin key.dest ≡ Ok ends)

-- It has a class under its contract.
abbrev pub IsClassed : Day → Key → Type 0
IsClassed day key = (class_answer day.holdings key.contract key.origin key.dest ≡ Ok (class_in day key)) × (1 ≤ class_in day key) × (class_in day key ≤ classes)

-- What has flowed of a line when a cycle takes effect, by the schedules in effect.
abbrev pub flowed_until : Day → History → ℕ → ℕ → ℕ
flowed_until day h line cycle = bounds.elapsed gas_day.hours_over (length_of day) (scheduled h line) cycle

pub record IsSound (day : Day) (h : History) : Type 0 where
  -- each accepted nomination is of a line with a route and a class
  pub routed : All (λ n. IsRouted day n.key) (nominations day h)
  pub classed : All (λ n. IsClassed day n.key) (nominations day h)
  -- and for a cycle that is not after that of a nomination made now
  pub rising : (stamp cycle : ℕ) → last_stamp h ≤ stamp → cycle_at day stamp ≡ Some cycle → All (λ n. n.cycle ≤ cycle) (nominations day h)
  pub in_day : All (λ n. (1 ≤ n.cycle) × (n.cycle ≤ cycles)) (nominations day h)
  -- while a cycle is frozen every nomination made now is for a later one
  pub past : is_frozen h ≡ true → (stamp cycle : ℕ) → last_stamp h ≤ stamp → cycle_at day stamp ≡ Some cycle → cycle_of h < cycle
  -- no more has flowed of a line than its schedule in effect
  pub flowing : (line cycle : ℕ) → 1 ≤ cycle → cycle < cycle_of h → flowed_until day h line cycle ≤ scheduled h line cycle
  -- nor than what was scheduled before, and so its floor is at most what is confirmed
  pub covered : (line : ℕ) → elapsed_of day h line ≤ former_of day h line
  pub bounded : (line : ℕ) → floor_of day h line ≤ confirmed_of day h line
