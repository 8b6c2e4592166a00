-- Calendars: the moments of a gas day's 29 civil times, in their order, in seconds since 1970-01-01T00:00:00Z.
use Rattle.std.specs.Prelude.{◌≡◌, ℕ, ◌+◌, ◌-◌, ◌*◌, ◌/◌, ◌<◌, ◌≤◌, List, [], ◌∷◌, length, get_or, map}
use Rattle.gd_rules.specs.GasDay as gas_day
use Rattle.gd_rules.specs.GasDay.{Time, Mark, civil_time, place}
use Rattle.gd_rules.specs.GasDay.Mark.{Received, Effective}

-- The moment of a civil time.
abbrev pub moment_at : List ℕ → Time → ℕ
moment_at moments t = get_or moments (place t) 0

-- The moment at which a mark of a cycle falls due.
abbrev pub due : List ℕ → ℕ → Mark → ℕ
due moments cycle mark = moment_at moments (civil_time cycle mark)

abbrev pub start : List ℕ → ℕ
start moments = moment_at moments gas_day.start

abbrev pub finish : List ℕ → ℕ
finish moments = moment_at moments gas_day.finish

-- The length of the gas day in hours.
abbrev pub hours : List ℕ → ℕ
hours moments = (finish moments - start moments) / 3600

-- The received times of the cycles, by number.
abbrev pub received_times : List ℕ → List ℕ
received_times moments = map (λ cycle. due moments cycle Received) (1 ∷ 2 ∷ 3 ∷ 4 ∷ 5 ∷ [])

-- Each moment lies before the next.
abbrev pub Rises : List ℕ → Type 0
Rises moments = (i : ℕ) → i + 1 < length moments → get_or moments i 0 < get_or moments (i + 1) 0

-- Each cycle takes effect whole hours after the start of the gas day: 0, 0, 5, 9 and 13.
abbrev pub IsElapsed : List ℕ → Type 0
IsElapsed moments = (cycle : ℕ) → 1 ≤ cycle → cycle ≤ 5 → due moments cycle Effective ≡ start moments + 3600 * gas_day.hours_over cycle

-- The gas day has 23, 24 or 25 whole hours.
abbrev pub HasLength : List ℕ → Type 0
HasLength moments = (finish moments ≡ start moments + 3600 * hours moments) × (23 ≤ hours moments) × (hours moments ≤ 25)

-- What holds of every calendar.
pub record IsCalendar (moments : List ℕ) : Type 0 where
  pub count : length moments ≡ 29
  pub rises : Rises moments
  pub elapsed : IsElapsed moments
  pub hours : HasLength moments
