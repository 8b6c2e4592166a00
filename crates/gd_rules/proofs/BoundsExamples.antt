-- The rules of floors and ceilings at worked examples.
use Rattle.std.proofs.Common.{◌≡◌, ℕ, zero, suc, true, false, refl}
use Rattle.std.specs.Prelude.{Some, None}
use Rattle.gd_rules.specs.Bounds.{elapsed, confirmed, protected, floor, line_floor, bumped}

-- hours over at the effective times of the cycles
passed : ℕ → ℕ
passed (suc (suc (suc zero))) = 5
passed (suc (suc (suc (suc zero)))) = 9
passed (suc (suc (suc (suc (suc zero))))) = 13
passed _ = 0

always : ℕ → ℕ → ℕ
always quantity cycle = quantity

-- a schedule of 100 throughout, on days of 24, 23 and 25 hours: rounded at each cycle, not once at the end
day-of-24 : (elapsed passed 24 (always 100) 1 ≡ 0) × (elapsed passed 24 (always 100) 2 ≡ 0) × (elapsed passed 24 (always 100) 3 ≡ 20) × (elapsed passed 24 (always 100) 4 ≡ 36) × (elapsed passed 24 (always 100) 5 ≡ 53)
unfolding passed always
day-of-24 = (refl, refl, refl, refl, refl)

day-of-23 : (elapsed passed 23 (always 100) 3 ≡ 21) × (elapsed passed 23 (always 100) 4 ≡ 38) × (elapsed passed 23 (always 100) 5 ≡ 55)
unfolding passed always
day-of-23 = (refl, refl, refl)

day-of-25 : (elapsed passed 25 (always 100) 3 ≡ 20) × (elapsed passed 25 (always 100) 4 ≡ 36) × (elapsed passed 25 (always 100) 5 ≡ 52)
unfolding passed always
day-of-25 = (refl, refl, refl)

-- schedules of 80 and of 70 throughout 24 hours
eighty : (elapsed passed 24 (always 80) 3 ≡ 16) × (elapsed passed 24 (always 80) 4 ≡ 29)
unfolding passed always
eighty = (refl, refl)

seventy : (elapsed passed 24 (always 70) 3 ≡ 14) × (elapsed passed 24 (always 70) 4 ≡ 25) × (elapsed passed 24 (always 70) 5 ≡ 37)
unfolding passed always
seventy = (refl, refl, refl)

-- Timely, 80 nominated, 50 carried: a silent end counts for what was carried, and only a silent one
timely : (confirmed 1 80 (Some 70) None 50 0 ≡ 50) × (confirmed 1 80 (Some 70) (Some 60) 50 0 ≡ 60) × (confirmed 1 80 None (Some 40) 50 0 ≡ 40) × (confirmed 1 30 None None 50 0 ≡ 30)
timely = (refl, refl, refl, refl)

-- later, 80 nominated, 60 in effect, 12 elapsed: one end silent, responses of 10 and 90, of 70 and 70
later : (confirmed 3 80 (Some 70) None 60 12 ≡ 60) × (confirmed 3 80 None (Some 70) 60 12 ≡ 60) × (confirmed 3 80 None None 60 12 ≡ 60) × (confirmed 3 80 (Some 10) (Some 90) 60 12 ≡ 12) × (confirmed 3 80 (Some 70) (Some 70) 60 12 ≡ 70)
later = (refl, refl, refl, refl, refl)

-- and their floors, protected and not
floors : (floor true 12 60 60 ≡ 60) × (floor true 12 60 12 ≡ 12) × (floor true 12 60 70 ≡ 60) × (floor false 12 60 60 ≡ 12) × (floor false 12 60 12 ≡ 12) × (floor false 12 60 70 ≡ 12)
floors = (refl, refl, refl, refl, refl, refl)

-- firm lines from Evening to Intraday 2, every line in Intraday 3, none in Timely, none while waived
protection : (protected 1 1 false ≡ false) × (protected 2 3 false ≡ true) × (protected 2 4 false ≡ false) × (protected 4 1 false ≡ true) × (protected 4 8 false ≡ false) × (protected 5 1 false ≡ true) × (protected 5 8 false ≡ true) × (protected 5 1 true ≡ false)
protection = (refl, refl, refl, refl, refl, refl, refl, refl)

-- interruptible 70 in effect, a firm line comes: in Evening it may be bumped to 50, in Intraday 3 its floor holds it
interruptible : (line_floor 2 4 false 0 70 70 ≡ 0) × (bumped 2 70 70 50 ≡ 20) × (line_floor 5 4 false 37 70 70 ≡ 70) × (bumped 5 70 70 70 ≡ 0)
interruptible = (refl, refl, refl, refl)

-- firm 80 in effect, waived at Intraday 2: its floor is what has flowed, and 60 bumps it by 20
waived : (line_floor 4 1 true 29 80 80 ≡ 29) × (line_floor 4 1 false 29 80 80 ≡ 80) × (bumped 4 80 80 60 ≡ 20) × (bumped 1 80 80 0 ≡ 0)
waived = (refl, refl, refl, refl)
