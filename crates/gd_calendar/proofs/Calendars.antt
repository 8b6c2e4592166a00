-- What follows for every calendar.
use Rattle.std.proofs.Common.{◌≡◌, ℕ, zero, suc, ◌+◌, ◌*◌, ◌<◌, ◌≤◌, List, [], ◌∷◌, length, get_or, Some, None, refl, sym, subst, arith, true, false}
use Rattle.std.specs.Prelude.{nat_le}
use Rattle.std.proofs.lemmas.Bool.{le-leb, lt-leb}
use Rattle.gd_rules.specs.GasDay as gas_day
use Rattle.gd_rules.specs.GasDay.{place}
use Rattle.gd_rules.specs.GasDay.Mark.{Received, Confirmed, Effective}
use Rattle.gd_calendar.specs.Calendar.{due, start, hours, received_times, Rises, IsElapsed, HasLength}
use Rattle.gd_calendar.proofs.Places.{by_cycle, start-at, finish-at}

-- what was read stands in the list
pub read : (xs : List ℕ) (i x : ℕ) → i < length xs → x ≡ get_or xs i x → get_or xs i 0 ≡ x
read [] i x k is = absurd (omega arith)
read (y ∷ ys) zero x k is = sym is
read (y ∷ ys) (suc i) x k is = read ys i x (omega arith) is

-- a later place has a later moment
earlier : (moments : List ℕ) → Rises moments → (i k : ℕ) → i + suc k < length moments → get_or moments i 0 < get_or moments (i + suc k) 0
earlier moments rises i zero last = rises i last
earlier moments rises i (suc k) last =
    let before : get_or moments i 0 < get_or moments (i + suc k) 0 = earlier moments rises i k (omega arith) in
    let next : get_or moments (i + suc k) 0 < get_or moments (i + suc k + 1) 0 = rises (i + suc k) (omega arith) in
    let same : i + suc k + 1 ≡ i + suc (suc k) = omega arith in
    let after : get_or moments (i + suc k) 0 < get_or moments (i + suc (suc k)) 0 = subst (λ (n : ℕ). get_or moments (i + suc k) 0 < get_or moments n 0) same next in
    omega arith

pub confirmed_after_received : (moments : List ℕ) → length moments ≡ 29 → Rises moments → (cycle : ℕ) → 1 ≤ cycle → cycle ≤ 5 → due moments cycle Received < due moments cycle Confirmed
unfolding place
confirmed_after_received moments count rises =
    by_cycle (λ k. due moments k Received < due moments k Confirmed) (earlier moments rises 1 1 (omega arith)) (earlier moments rises 6 1 (omega arith)) (earlier moments rises 12 1 (omega arith)) (earlier moments rises 18 1 (omega arith)) (earlier moments rises 24 1 (omega arith))

-- the fifth has no next: its place is left free
pub received_rise : (moments : List ℕ) → length moments ≡ 29 → Rises moments → (cycle : ℕ) → 1 ≤ cycle → cycle < 5 → due moments cycle Received < due moments (cycle + 1) Received
unfolding place
received_rise moments count rises cycle low high =
    by_cycle (λ k. k < 5 → due moments k Received < due moments (k + 1) Received) (λ _. earlier moments rises 1 4 (omega arith)) (λ _. earlier moments rises 6 5 (omega arith)) (λ _. earlier moments rises 12 5 (omega arith)) (λ _. earlier moments rises 18 5 (omega arith)) (λ h. absurd (omega arith)) cycle low (omega arith) high

-- the elapsed hours by places
pub elapsed_whole : (moments : List ℕ) → get_or moments 16 0 ≡ get_or moments 10 0 + 18000 → get_or moments 22 0 ≡ get_or moments 10 0 + 32400 → get_or moments 27 0 ≡ get_or moments 10 0 + 46800 → IsElapsed moments
unfolding place
elapsed_whole moments a b c =
    by_cycle (λ k. due moments k Effective ≡ start moments + 3600 * gas_day.hours_over k) (omega arith) (omega arith) a b c

pub elapsed_at : (moments : List ℕ) → IsElapsed moments → (get_or moments 16 0 ≡ get_or moments 10 0 + 18000) × (get_or moments 22 0 ≡ get_or moments 10 0 + 32400) × (get_or moments 27 0 ≡ get_or moments 10 0 + 46800)
unfolding place
elapsed_at moments e = (e 3 (omega arith) (omega arith), e 4 (omega arith) (omega arith), e 5 (omega arith) (omega arith))

-- the length by places
pub length_whole : (moments : List ℕ) (h : ℕ) → 23 ≤ h → h ≤ 25 → get_or moments 28 0 ≡ get_or moments 10 0 + 3600 * h → HasLength moments
length_whole moments h low high e =
    let s = start-at moments in
    let f = finish-at moments in
    let is : hours moments ≡ h = omega arith in
    (omega arith, omega arith, omega arith)

pub length_at : (moments : List ℕ) → HasLength moments → (get_or moments 28 0 ≡ get_or moments 10 0 + 3600 * hours moments) × (23 ≤ hours moments) × (hours moments ≤ 25)
length_at moments h =
    let s = start-at moments in
    let f = finish-at moments in
    (omega arith, h.1, h.2)

-- the first received time that is not before the moment
abbrev pub AllBefore : List ℕ → ℕ → ℕ → Type 0
AllBefore moments moment n = (k : ℕ) → 1 ≤ k → k < n → due moments k Received < moment

abbrev FirstAt : List ℕ → ℕ → ℕ → Type 0
FirstAt moments moment k = AllBefore moments moment k → moment ≤ due moments k Received → gas_day.cycle_of (received_times moments) moment ≡ Some k

late : (moments : List ℕ) (moment n : ℕ) → AllBefore moments moment n → (k : ℕ) → 1 ≤ k → k < n → nat_le moment (due moments k Received) ≡ false
late moments moment n before k low high = lt-leb moment (due moments k Received) (before k low high)

first_1 : (moments : List ℕ) (moment : ℕ) → FirstAt moments moment 1
first_1 moments moment before here =
    let now : nat_le moment (due moments 1 Received) ≡ true = le-leb moment (due moments 1 Received) here in
    rw now refl

first_2 : (moments : List ℕ) (moment : ℕ) → FirstAt moments moment 2
first_2 moments moment before here =
    let a = late moments moment 2 before 1 (omega arith) (omega arith) in
    let now : nat_le moment (due moments 2 Received) ≡ true = le-leb moment (due moments 2 Received) here in
    rw (a, now) refl

first_3 : (moments : List ℕ) (moment : ℕ) → FirstAt moments moment 3
first_3 moments moment before here =
    let a = late moments moment 3 before 1 (omega arith) (omega arith) in
    let b = late moments moment 3 before 2 (omega arith) (omega arith) in
    let now : nat_le moment (due moments 3 Received) ≡ true = le-leb moment (due moments 3 Received) here in
    rw (a, b, now) refl

first_4 : (moments : List ℕ) (moment : ℕ) → FirstAt moments moment 4
first_4 moments moment before here =
    let a = late moments moment 4 before 1 (omega arith) (omega arith) in
    let b = late moments moment 4 before 2 (omega arith) (omega arith) in
    let c = late moments moment 4 before 3 (omega arith) (omega arith) in
    let now : nat_le moment (due moments 4 Received) ≡ true = le-leb moment (due moments 4 Received) here in
    rw (a, b, c, now) refl

first_5 : (moments : List ℕ) (moment : ℕ) → FirstAt moments moment 5
first_5 moments moment before here =
    let a = late moments moment 5 before 1 (omega arith) (omega arith) in
    let b = late moments moment 5 before 2 (omega arith) (omega arith) in
    let c = late moments moment 5 before 3 (omega arith) (omega arith) in
    let d = late moments moment 5 before 4 (omega arith) (omega arith) in
    let now : nat_le moment (due moments 5 Received) ≡ true = le-leb moment (due moments 5 Received) here in
    rw (a, b, c, d, now) refl

pub cycle_first : (moments : List ℕ) (moment cycle : ℕ) → 1 ≤ cycle → cycle ≤ 5 → AllBefore moments moment cycle → moment ≤ due moments cycle Received → gas_day.cycle_of (received_times moments) moment ≡ Some cycle
cycle_first moments moment =
    by_cycle (FirstAt moments moment) (first_1 moments moment) (first_2 moments moment) (first_3 moments moment) (first_4 moments moment) (first_5 moments moment)

pub cycle_none : (moments : List ℕ) (moment : ℕ) → AllBefore moments moment 6 → gas_day.cycle_of (received_times moments) moment ≡ None
cycle_none moments moment before =
    let a = late moments moment 6 before 1 (omega arith) (omega arith) in
    let b = late moments moment 6 before 2 (omega arith) (omega arith) in
    let c = late moments moment 6 before 3 (omega arith) (omega arith) in
    let d = late moments moment 6 before 4 (omega arith) (omega arith) in
    let e = late moments moment 6 before 5 (omega arith) (omega arith) in
    rw (a, b, c, d, e) refl
