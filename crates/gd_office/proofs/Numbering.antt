-- Slots that are numbered by their places, and the opening values of their books.
use Rattle.std.proofs.Common.{◌≡◌, ℕ, ◌+◌, List, [], ◌∷◌, ◌++◌, length, slice_get, suc, zero, Some, refl, sym, subst, arith}
use Rattle.gd_book.specs.Kept.{Kept}
use Rattle.gd_machine.specs.Day.{Day}
use Rattle.gd_office_part.specs.Days.{IsDayOf}
use Rattle.gd_office_part.specs.Seen.{Slot}
use Rattle.gd_office.specs.Slots.{AreDaysOf, AreNumbered}

-- what holds at each place holds at the next one
at_more : (n : ℕ) (slots : List Slot) (slot : Slot) → ((i : ℕ) (s : Slot) → slice_get slots i ≡ Some s → s.number ≡ n + i + 1)
    → slot.number ≡ n + length slots + 1 → (i : ℕ) (s : Slot) → slice_get (slots ++ slot ∷ []) i ≡ Some s → s.number ≡ n + i + 1
at_more n [] slot all here zero s h = let same : slot ≡ s = cc in subst (λ (v : Slot). v.number ≡ n + 0 + 1) same here
at_more n [] slot all here (suc i) s h = cc
at_more n (z ∷ slots) slot all here zero s h = all zero s h
at_more n (z ∷ slots) slot all here (suc i) s h =
    let first : (j : ℕ) (v : Slot) → slice_get slots j ≡ Some v → v.number ≡ (n + 1) + j + 1 =
    λ j v k. (let is : v.number ≡ n + (suc j) + 1 = all (suc j) v k in omega (arith, is)) in
    let next : slot.number ≡ (n + 1) + length slots + 1 = omega (arith, here) in
    let is : s.number ≡ (n + 1) + i + 1 = at_more (n + 1) slots slot first next i s h in
    omega (arith, is)

pub numbered_more : (slots : List Slot) (slot : Slot) → AreNumbered slots → slot.number ≡ length slots + 1 → AreNumbered (slots ++ slot ∷ [])
numbered_more slots slot all here i s h =
    let first : (j : ℕ) (v : Slot) → slice_get slots j ≡ Some v → v.number ≡ 0 + j + 1 =
    λ j v k. (let is : v.number ≡ j + 1 = all j v k in omega (arith, is)) in
    let next : slot.number ≡ 0 + length slots + 1 = omega (arith, here) in
    let is : s.number ≡ 0 + i + 1 = at_more 0 slots slot first next i s h in
    omega (arith, is)

-- What is known of books that are put into the slots behind so many.
abbrev pub AreDaysFrom : List Day → ℕ → List Kept → Type 0
AreDaysFrom days n books = (i : ℕ) (book : Kept) → slice_get books i ≡ Some book → IsDayOf days (n + i + 1) book.day

pub days_first : (days : List Day) (n : ℕ) (books left : List Kept) → n ≡ 0 → left ≡ books → AreDaysOf days books → AreDaysFrom days n left
days_first days n books left none is all i book at =
    let there : slice_get books i ≡ Some book = subst (λ (l : List Kept). slice_get l i ≡ Some book) is at in
    let same : i + 1 ≡ n + i + 1 = omega (arith, none) in
    subst (λ (k : ℕ). IsDayOf days k book.day) same (all i book there)

pub day_next : (days : List Day) (n : ℕ) (books left : List Kept) (b : Kept) → books ≡ b ∷ left → AreDaysFrom days n books → IsDayOf days (n + 1) b.day
day_next days n books left b is all =
    let there : slice_get books 0 ≡ Some b = subst (λ (l : List Kept). slice_get l 0 ≡ Some b) (sym is) refl in
    let same : n + 0 + 1 ≡ n + 1 = omega arith in
    subst (λ (k : ℕ). IsDayOf days k b.day) same (all 0 b there)

pub days_left : (days : List Day) (n m : ℕ) (books left : List Kept) (b : Kept) → books ≡ b ∷ left → m ≡ n + 1 → AreDaysFrom days n books → AreDaysFrom days m left
days_left days n m books left b is next all i book at =
    let there : slice_get books (suc i) ≡ Some book = subst (λ (l : List Kept). slice_get l (suc i) ≡ Some book) (sym is) at in
    let same : n + (suc i) + 1 ≡ m + i + 1 = omega (arith, next) in
    subst (λ (k : ℕ). IsDayOf days k book.day) same (all (suc i) book there)
