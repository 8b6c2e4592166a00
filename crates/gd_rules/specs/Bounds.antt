-- Between which quantities a line's schedule may lie in a cycle: at least what has flowed and what may not be bumped, at most what both ends confirm.
-- Cycles (NAESB WGQ 1.3.2) count from 1: Timely, Evening, Intraday 1, 2 and 3. Quantities are dekatherms for one gas day.
use Rattle.std.specs.Prelude.{ℕ, zero, suc, ◌+◌, ◌-◌, ◌*◌, ◌/◌, min, max, Bool, true, false, ◌==◌, ◌&&◌, nat_le, Option, Some, None, if◌then◌else◌}

abbrev timely_number : ℕ
timely_number = 1

abbrev evening_number : ℕ
evening_number = 2

abbrev intraday_2_number : ℕ
intraday_2_number = 4

abbrev intraday_3_number : ℕ
intraday_3_number = 5

-- ---- the elapsed quantity (own, formula and rounding)

-- What flows of a quantity in some of the hours that it has left, at an even rate, in whole dekatherms.
abbrev pub flowed : ℕ → ℕ → ℕ → ℕ
flowed quantity hours rest = quantity * hours / rest

-- What has flowed by the end of these hours, if so much had flowed when they began and the rest of the schedule flows evenly over what is left of the gas day.
abbrev pub elapsed_after : ℕ → ℕ → ℕ → ℕ → ℕ
elapsed_after elapsed scheduled hours rest = elapsed + flowed (scheduled - elapsed) hours rest

-- What has flowed when a cycle takes effect: nothing at Timely and Evening, which take effect as the gas day begins; later what had flowed by the former cycle's time, and what flowed since of the schedule that was then in effect.
-- `passed` tells the hours of the gas day that are over when a cycle takes effect, `day` how many the day has, and `scheduled` the schedule in effect after a cycle.
abbrev pub elapsed : (ℕ → ℕ) → ℕ → (ℕ → ℕ) → ℕ → ℕ
elapsed passed day scheduled zero = 0
elapsed passed day scheduled (suc former) =
    if nat_le (suc former) evening_number then 0
    else elapsed_after (elapsed passed day scheduled former) (scheduled former) (passed (suc former) - passed former) (day - passed former)

-- ---- the confirmed quantity, which is the line's ceiling (own, silence included). The responses are those of this cycle at the line's origin and at its destination.

-- Timely: the least of the nominated quantity, the responses there are and, if an end is silent, the quantity carried over from the day before.
abbrev pub timely_confirmed : ℕ → Option ℕ → Option ℕ → ℕ → ℕ
timely_confirmed nominated (Some origin) (Some dest) carried = min nominated (min origin dest)
timely_confirmed nominated (Some origin) None carried = min nominated (min origin carried)
timely_confirmed nominated None (Some dest) carried = min nominated (min dest carried)
timely_confirmed nominated None None carried = min nominated carried

-- Later: the schedule in effect, if either end is silent; else the least of the nominated quantity and both responses, but never less than has flowed.
abbrev pub later_confirmed : ℕ → Option ℕ → Option ℕ → ℕ → ℕ → ℕ
later_confirmed nominated (Some origin) (Some dest) former elapsed = max elapsed (min nominated (min origin dest))
later_confirmed nominated (Some origin) None former elapsed = former
later_confirmed nominated None dest former elapsed = former

-- `former` is the schedule in effect before this cycle, at Timely the quantity carried over.
abbrev pub confirmed : ℕ → ℕ → Option ℕ → Option ℕ → ℕ → ℕ → ℕ
confirmed cycle nominated origin dest former elapsed = if cycle == timely_number then timely_confirmed nominated origin dest former else later_confirmed nominated origin dest former elapsed

-- ---- the floor

-- Classes 1 to 3 are firm.
abbrev pub is_firm : ℕ → Bool
is_firm class = nat_le class 3

-- In Intraday 3 no line is bumped (NAESB WGQ 1.3.2). In Intraday 1 and 2 firm nominations go before interruptible ones that are scheduled already (18 CFR 284.12), so firm lines alone are protected; in Evening too (own). In Timely nothing is.
abbrev pub is_protected_in : ℕ → ℕ → Bool
is_protected_in cycle class =
    if cycle == intraday_3_number then true
    else if nat_le evening_number cycle && nat_le cycle intraday_2_number then is_firm class
    else false

-- A line is not protected while it is waived (own): that can free a cycle in which no schedule is allowed.
abbrev pub protected : ℕ → ℕ → Bool → Bool
protected cycle class true = false
protected cycle class false = is_protected_in cycle class

-- What has flowed; for a protected line also what of the schedule in effect is confirmed (own).
abbrev pub floor : Bool → ℕ → ℕ → ℕ → ℕ
floor true elapsed former confirmed = max elapsed (min former confirmed)
floor false elapsed former confirmed = elapsed

-- The floor of a line of this class.
abbrev pub line_floor : ℕ → ℕ → Bool → ℕ → ℕ → ℕ → ℕ
line_floor cycle class waived elapsed former confirmed = floor (protected cycle class waived) elapsed former confirmed

-- By how much a line is bumped (own): what of the schedule in effect is confirmed, less the new schedule. In Timely nothing is.
abbrev pub bumped : ℕ → ℕ → ℕ → ℕ → ℕ
bumped cycle former confirmed scheduled = if cycle == timely_number then 0 else min former confirmed - scheduled
