-- The table of cycles at worked examples.
use Rattle.std.specs.Prelude.{◌≡◌, ℕ, ◌&&◌, Bool, true, Some, None, List, [], ◌∷◌, length, get_or, map, nat_lt, refl}
use Rattle.gd_rules.specs.GasDay.{Time, civil_time, civil_times, start, finish, minutes, place, hours_over, cycle_of}
use Rattle.gd_rules.specs.GasDay.Mark.{Leaves, Received, Quick, Confirmed, Schedules, Effective}

-- each number lies before the next
rising : List ℕ → Bool
rising [] = true
rising (x ∷ []) = true
rising (x ∷ y ∷ rest) = nat_lt x y && rising (y ∷ rest)

-- the list has 29 times, in rising order of the clock
in_order : (length civil_times ≡ 29) × (rising (map minutes civil_times) ≡ true)
unfolding rising
in_order = (refl, refl)

-- the places of a cycle's times
places : ℕ → List ℕ
places number =
    place (civil_time number Leaves) ∷ place (civil_time number Received) ∷ place (civil_time number Quick)
    ∷ place (civil_time number Confirmed) ∷ place (civil_time number Schedules) ∷ place (civil_time number Effective) ∷ []

-- each place below 29 is that of a time of the table or of the end of the gas day
table : (places 1 ≡ 0 ∷ 1 ∷ 2 ∷ 3 ∷ 4 ∷ 10 ∷ []) × (places 2 ≡ 5 ∷ 6 ∷ 7 ∷ 8 ∷ 9 ∷ 10 ∷ []) × (places 3 ≡ 11 ∷ 12 ∷ 13 ∷ 14 ∷ 15 ∷ 16 ∷ []) × (places 4 ≡ 17 ∷ 18 ∷ 19 ∷ 20 ∷ 21 ∷ 22 ∷ []) × (places 5 ≡ 23 ∷ 24 ∷ 25 ∷ 26 ∷ 27 ∷ 27 ∷ []) × (place start ≡ 10) × (place finish ≡ 28)
unfolding places place
table = (refl, refl, refl, refl, refl, refl, refl)

-- the times at those places are those of the table
found : (number : ℕ) → List Time
found number = map (λ k. get_or civil_times k start) (places number)

rows : ℕ → List Time
rows number =
    civil_time number Leaves ∷ civil_time number Received ∷ civil_time number Quick
    ∷ civil_time number Confirmed ∷ civil_time number Schedules ∷ civil_time number Effective ∷ []

each_found : (found 1 ≡ rows 1) × (found 2 ≡ rows 2) × (found 3 ≡ rows 3) × (found 4 ≡ rows 4) × (found 5 ≡ rows 5)
unfolding found rows places place
each_found = (refl, refl, refl, refl, refl)

hours : map hours_over (1 ∷ 2 ∷ 3 ∷ 4 ∷ 5 ∷ []) ≡ 0 ∷ 0 ∷ 5 ∷ 9 ∷ 13 ∷ []
hours = refl

-- the received times of the gas day 2026-03-08
received : List ℕ
received = 1772910900 ∷ 1772928900 ∷ 1772982900 ∷ 1772999100 ∷ 1773015300 ∷ []

-- the received time itself is in time
cycles : (cycle_of received 1772910900 ≡ Some 1) × (cycle_of received 1772910901 ≡ Some 2) × (cycle_of received 1773015300 ≡ Some 5) × (cycle_of received 1773015301 ≡ None)
unfolding received
cycles = (refl, refl, refl, refl)
