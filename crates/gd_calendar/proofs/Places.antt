-- Where the marks of the cycles stand among the civil times.
use Rattle.std.proofs.Common.{◌≡◌, ℕ, zero, suc, ◌-◌, ◌<◌, ◌≤◌, List, [], ◌∷◌, get_or, refl, arith, lit<}
use Rattle.gd_rules.specs.GasDay.{Mark, civil_time, place}
use Rattle.gd_rules.specs.GasDay.Mark.{Leaves, Received, Quick, Confirmed, Schedules, Effective}
use Rattle.gd_calendar.specs.Calendar.{start, finish}

-- what holds of each of the five cycles
pub by_cycle : (P : ℕ → Type 0) → P 1 → P 2 → P 3 → P 4 → P 5 → (cycle : ℕ) → 1 ≤ cycle → cycle ≤ 5 → P cycle
by_cycle P a b c d e zero low high = absurd (omega arith)
by_cycle P a b c d e (suc zero) low high = a
by_cycle P a b c d e (suc (suc zero)) low high = b
by_cycle P a b c d e (suc (suc (suc zero))) low high = c
by_cycle P a b c d e (suc (suc (suc (suc zero)))) low high = d
by_cycle P a b c d e (suc (suc (suc (suc (suc zero))))) low high = e
by_cycle P a b c d e (suc (suc (suc (suc (suc (suc n)))))) low high = absurd (omega arith)

-- the places of the code
abbrev pub rows : List (List ℕ)
rows =
    (0 ∷ 1 ∷ 2 ∷ 3 ∷ 4 ∷ 10 ∷ []) ∷ (5 ∷ 6 ∷ 7 ∷ 8 ∷ 9 ∷ 10 ∷ []) ∷ (11 ∷ 12 ∷ 13 ∷ 14 ∷ 15 ∷ 16 ∷ [])
    ∷ (17 ∷ 18 ∷ 19 ∷ 20 ∷ 21 ∷ 22 ∷ []) ∷ (23 ∷ 24 ∷ 25 ∷ 26 ∷ 27 ∷ 27 ∷ []) ∷ []

abbrev pub column : Mark → ℕ
column Leaves = 0
column Received = 1
column Quick = 2
column Confirmed = 3
column Schedules = 4
column Effective = 5

abbrev pub placed : ℕ → ℕ → ℕ
placed cycle k = get_or (get_or rows (cycle - 1) []) k 0

pub in_row : (mark : Mark) (cycle : ℕ) → 1 ≤ cycle → cycle ≤ 5 → placed cycle (column mark) ≡ place (civil_time cycle mark)
unfolding place
in_row Leaves = by_cycle (λ k. placed k 0 ≡ place (civil_time k Leaves)) refl refl refl refl refl
in_row Received = by_cycle (λ k. placed k 1 ≡ place (civil_time k Received)) refl refl refl refl refl
in_row Quick = by_cycle (λ k. placed k 2 ≡ place (civil_time k Quick)) refl refl refl refl refl
in_row Confirmed = by_cycle (λ k. placed k 3 ≡ place (civil_time k Confirmed)) refl refl refl refl refl
in_row Schedules = by_cycle (λ k. placed k 4 ≡ place (civil_time k Schedules)) refl refl refl refl refl
in_row Effective = by_cycle (λ k. placed k 5 ≡ place (civil_time k Effective)) refl refl refl refl refl

pub below : (mark : Mark) (cycle : ℕ) → 1 ≤ cycle → cycle ≤ 5 → placed cycle (column mark) < 29
below Leaves = by_cycle (λ k. placed k 0 < 29) (lit< tt) (lit< tt) (lit< tt) (lit< tt) (lit< tt)
below Received = by_cycle (λ k. placed k 1 < 29) (lit< tt) (lit< tt) (lit< tt) (lit< tt) (lit< tt)
below Quick = by_cycle (λ k. placed k 2 < 29) (lit< tt) (lit< tt) (lit< tt) (lit< tt) (lit< tt)
below Confirmed = by_cycle (λ k. placed k 3 < 29) (lit< tt) (lit< tt) (lit< tt) (lit< tt) (lit< tt)
below Schedules = by_cycle (λ k. placed k 4 < 29) (lit< tt) (lit< tt) (lit< tt) (lit< tt) (lit< tt)
below Effective = by_cycle (λ k. placed k 5 < 29) (lit< tt) (lit< tt) (lit< tt) (lit< tt) (lit< tt)

pub start-at : (moments : List ℕ) → start moments ≡ get_or moments 10 0
unfolding place
start-at moments = refl

pub finish-at : (moments : List ℕ) → finish moments ≡ get_or moments 28 0
unfolding place
finish-at moments = refl
