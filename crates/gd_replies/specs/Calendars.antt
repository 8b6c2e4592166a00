-- The rows that tell a calendar.
use Rattle.std.specs.Prelude.{ℕ, zero, suc, ◌+◌, List, [], ◌∷◌, ◌++◌}
use Rattle.gd_rules.specs.Limits.{cycles}
use Rattle.gd_rules.specs.GasDay as gas_day
use Rattle.gd_rules.specs.GasDay.Mark.{Leaves, Received, Quick, Confirmed, Schedules, Effective}
use Rattle.gd_calendar.specs.Calendar.{due, hours}
use Rattle.gd_replies.specs.declared.reply.Reply.{Reply}
use Rattle.gd_replies.specs.declared.reply.Reply.TheVariants as reply

-- the moments of a cycle
abbrev pub cycle_row : List ℕ → ℕ → Reply
cycle_row moments c =
    reply.Cycle c (due moments c Leaves) (due moments c Received) (due moments c Quick)
    (due moments c Confirmed) (due moments c Schedules) (due moments c Effective)

-- the rows of cycles 1 to n
unfoldable pub cycle_rows : List ℕ → ℕ → List Reply
cycle_rows moments zero = []
cycle_rows moments (suc n) = cycle_rows moments n ++ cycle_row moments (n + 1) ∷ []

-- the hours of the gas day, and how many are over where each cycle takes effect
abbrev pub hours_row : List ℕ → Reply
hours_row moments =
    reply.Hours (hours moments) (gas_day.hours_over 1) (gas_day.hours_over 2) (gas_day.hours_over 3)
    (gas_day.hours_over 4) (gas_day.hours_over 5)

-- the rows of a calendar
abbrev pub calendar_rows : List ℕ → List Reply
calendar_rows moments = cycle_rows moments cycles ++ hours_row moments ∷ []
