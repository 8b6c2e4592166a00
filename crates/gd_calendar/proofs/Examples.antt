-- The definitions at worked examples.
use Rattle.std.proofs.Common.{◌≡◌, ℕ, zero, suc, ◌+◌, ◌<◌, List, [], ◌∷◌, refl, arith, lit<, lit≤, get_or, Bool, true, false, subst, sym, ◌==◌, ◌≢◌}
use Rattle.std.proofs.lemmas.Bool.{eqb-true, eqb-false}
use Rattle.gd_rules.specs.GasDay.{place}
use Rattle.gd_rules.specs.GasDay.Mark.{Leaves, Received, Quick, Confirmed, Schedules, Effective}
use Rattle.gd_calendar.specs.Calendar.{due, hours, received_times, Rises, IsCalendar}
use Rattle.gd_calendar.proofs.Calendars.{elapsed_whole, length_whole}

-- what holds of 0, 1 and so on below n
abbrev Below : (ℕ → Type 0) → ℕ → Type 0
Below P zero = Unit {0}
Below P (suc n) = Below P n × P n

each : (P : ℕ → Type 0) (n : ℕ) → Below P n → (i : ℕ) → i < n → P i
each P zero h i k = absurd (omega arith)
each P (suc n) h i k = go (i == n) refl (λ less. each P n h.0 i less)
  where
    go : (v : Bool) → (i == n) ≡ v → (i < n → P i) → P i
    go true e before = subst P (sym (eqb-true i n e)) h.1
    go false e before = let other : i ≢ n = eqb-false i n e in before (omega arith)

-- the gas day 2026-03-08 by the rule of the United States: the clock changes between the Schedules and the Effective time of cycle 2
worked : List ℕ
worked =
    1772910000 ∷ 1772910900 ∷ 1772911800 ∷ 1772922600 ∷ 1772924400
    ∷ 1772928000 ∷ 1772928900 ∷ 1772929800 ∷ 1772937000 ∷ 1772938800
    ∷ 1772978400
    ∷ 1772982000 ∷ 1772982900 ∷ 1772983800 ∷ 1772991000 ∷ 1772992800 ∷ 1772996400
    ∷ 1772998200 ∷ 1772999100 ∷ 1773000000 ∷ 1773007200 ∷ 1773009000 ∷ 1773010800
    ∷ 1773014400 ∷ 1773015300 ∷ 1773016200 ∷ 1773023400 ∷ 1773025200
    ∷ 1773064800 ∷ []

dues : (due worked 1 Leaves ≡ 1772910000) × (due worked 1 Received ≡ 1772910900) × (due worked 2 Effective ≡ 1772978400) × (due worked 3 Quick ≡ 1772983800) × (due worked 4 Confirmed ≡ 1773007200) × (due worked 5 Schedules ≡ 1773025200) × (due worked 5 Effective ≡ 1773025200)
unfolding worked place
dues = (refl, refl, refl, refl, refl, refl, refl)

received : received_times worked ≡ 1772910900 ∷ 1772928900 ∷ 1772982900 ∷ 1772999100 ∷ 1773015300 ∷ []
unfolding worked place
received = refl

rising : Rises worked
unfolding worked
rising i k = each (λ n. get_or worked n 0 < get_or worked (n + 1) 0) 28 ((((((((((((((((((((((((((((tt, lit< tt), lit< tt), lit< tt), lit< tt), lit< tt), lit< tt), lit< tt), lit< tt), lit< tt), lit< tt), lit< tt), lit< tt), lit< tt), lit< tt), lit< tt), lit< tt), lit< tt), lit< tt), lit< tt), lit< tt), lit< tt), lit< tt), lit< tt), lit< tt), lit< tt), lit< tt), lit< tt), lit< tt) i (omega arith)

calendar : IsCalendar worked
unfolding worked
calendar = record {
  count = refl;
  rises = rising;
  elapsed = elapsed_whole worked refl refl refl;
  hours = length_whole worked 24 (lit≤ tt) (lit≤ tt) refl;
}

length : hours worked ≡ 24
unfolding worked place
length = refl
