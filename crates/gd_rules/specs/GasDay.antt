-- The gas day (NAESB WGQ 1.3.1) and its five cycles of nominations (NAESB WGQ 1.3.2), by the clock of the Central time zone.
use Rattle.std.specs.Prelude.{ℕ, ◌+◌, ◌-◌, ◌*◌, ◌==◌, nat_le, Option, List, [], ◌∷◌, get_or}
use Rattle.std.specs.Option.{option_map}
use Rattle.std.specs.List.{position, position_or_len}

-- The gas day and the days beside it.
pub data Day : Type 0 where
  Before : Day
  Same : Day
  After : Day

-- A time that the clock shows, in hours and minutes.
pub record Time : Type 0 where
  pub day : Day
  pub hour : ℕ
  pub minute : ℕ

abbrev pub day_before : ℕ → ℕ → Time
day_before hour minute = record { day = Before; hour = hour; minute = minute }

abbrev pub gas_day : ℕ → ℕ → Time
gas_day hour minute = record { day = Same; hour = hour; minute = minute }

abbrev pub day_after : ℕ → ℕ → Time
day_after hour minute = record { day = After; hour = hour; minute = minute }

-- What falls due in a cycle.
pub data Mark : Type 0 where
  -- Nominations leave the shipper.
  Leaves : Mark
  -- The pipeline has received them.
  Received : Mark
  -- It has sent its quick response.
  Quick : Mark
  -- It has received the confirmations of both ends.
  Confirmed : Mark
  -- Shippers and operators have received the scheduled quantities.
  Schedules : Mark
  -- The scheduled quantities begin to flow.
  Effective : Mark

-- The times of one cycle.
pub record Cycle : Type 0 where
  pub leaves : Time
  pub received : Time
  pub quick : Time
  pub confirmed : Time
  pub schedules : Time
  pub effective : Time

abbrev pub timely : Cycle
timely = record { leaves = day_before 13 0; received = day_before 13 15; quick = day_before 13 30; confirmed = day_before 16 30; schedules = day_before 17 0; effective = gas_day 9 0 }

abbrev pub evening : Cycle
evening = record { leaves = day_before 18 0; received = day_before 18 15; quick = day_before 18 30; confirmed = day_before 20 30; schedules = day_before 21 0; effective = gas_day 9 0 }

abbrev pub intraday_1 : Cycle
intraday_1 = record { leaves = gas_day 10 0; received = gas_day 10 15; quick = gas_day 10 30; confirmed = gas_day 12 30; schedules = gas_day 13 0; effective = gas_day 14 0 }

abbrev pub intraday_2 : Cycle
intraday_2 = record { leaves = gas_day 14 30; received = gas_day 14 45; quick = gas_day 15 0; confirmed = gas_day 17 0; schedules = gas_day 17 30; effective = gas_day 18 0 }

abbrev pub intraday_3 : Cycle
intraday_3 = record { leaves = gas_day 19 0; received = gas_day 19 15; quick = gas_day 19 30; confirmed = gas_day 21 30; schedules = gas_day 22 0; effective = gas_day 22 0 }

-- The cycles are numbered from 1.
abbrev pub cycle : ℕ → Cycle
cycle number = get_or (timely ∷ evening ∷ intraday_1 ∷ intraday_2 ∷ intraday_3 ∷ []) (number - 1) timely

-- The table of cycles: when a mark of a cycle falls due.
abbrev pub civil_time : ℕ → Mark → Time
civil_time number Leaves = (cycle number).leaves
civil_time number Received = (cycle number).received
civil_time number Quick = (cycle number).quick
civil_time number Confirmed = (cycle number).confirmed
civil_time number Schedules = (cycle number).schedules
civil_time number Effective = (cycle number).effective

-- The gas day runs from 9:00 to 9:00.
abbrev pub start : Time
start = gas_day 9 0

abbrev pub finish : Time
finish = day_after 9 0

-- The times of the table and the end of the gas day, each once, in order of the clock.
abbrev pub civil_times : List Time
civil_times =
    day_before 13 0 ∷ day_before 13 15 ∷ day_before 13 30 ∷ day_before 16 30 ∷ day_before 17 0
    ∷ day_before 18 0 ∷ day_before 18 15 ∷ day_before 18 30 ∷ day_before 20 30 ∷ day_before 21 0
    ∷ gas_day 9 0
    ∷ gas_day 10 0 ∷ gas_day 10 15 ∷ gas_day 10 30 ∷ gas_day 12 30 ∷ gas_day 13 0 ∷ gas_day 14 0
    ∷ gas_day 14 30 ∷ gas_day 14 45 ∷ gas_day 15 0 ∷ gas_day 17 0 ∷ gas_day 17 30 ∷ gas_day 18 0
    ∷ gas_day 19 0 ∷ gas_day 19 15 ∷ gas_day 19 30 ∷ gas_day 21 30 ∷ gas_day 22 0
    ∷ day_after 9 0 ∷ []

-- How many days after the day before.
abbrev pub days : Day → ℕ
days Before = 0
days Same = 1
days After = 2

-- The minutes that the clock shows since the midnight that begins the day before.
abbrev pub minutes : Time → ℕ
minutes t = 1440 * days t.day + 60 * t.hour + t.minute

-- Where a time stands among the civil times, from 0.
unfoldable pub place : Time → ℕ
place t = position_or_len (λ other. minutes other == minutes t) civil_times

-- How many hours of the gas day are over when a cycle takes effect.
abbrev pub hours_over : ℕ → ℕ
hours_over number = get_or (0 ∷ 0 ∷ 5 ∷ 9 ∷ 13 ∷ []) (number - 1) 0

-- The first cycle whose received time is not before the moment, or none, by the received times of cycles 1 to 5.
abbrev pub cycle_of : List ℕ → ℕ → Option ℕ
cycle_of received moment = option_map (λ place. place + 1) (position (λ last. nat_le moment last) received)
