-- The opening values of books, one after the other.
use Rattle.std.proofs.Common.{◌≡◌, ◌∙◌, ℕ, ◌+◌, ◌-◌, List, [], ◌∷◌, ◌++◌, map, slice_get, option_map, Some, sym, ap, subst, arith, append_assoc}
use Rattle.std.specs.List.{AllZip}
use Rattle.std.proofs.lemmas.List.{map-append, append-nil}
use Rattle.std.proofs.lemmas.Option.{slice_get-map, same_Some}
use Rattle.gd_book.specs.Kept.{Kept}
use Rattle.gd_day.specs.declared.text.DayText.{DayText}
use Rattle.gd_machine.specs.Day.{Day}
use Rattle.gd_office.specs.Slots.{AreDaysOf}
use Rattle.gasday_office.specs.Days.{opened}
use Rattle.gasday_part.specs.Answers.{day_in}
use Rattle.gasday_office.specs.Offices.{IsCalendarFor, IsOpenedWith}

-- books have the opening values that they have
pub known_days : (books : List Kept) → AreDaysOf (map (λ b. b.day) books) books
known_days books i book there known at =
    let day : Kept → Day = λ b. b.day in
    let place : (i + 1) - 1 ≡ i = omega arith in
    let here : slice_get (map day books) i ≡ Some known = subst (λ (n : ℕ). slice_get (map day books) n ≡ Some known) place at in
    same_Some book.day known (sym (slice_get-map day books i ∙ ap (option_map day) there) ∙ here)

-- What books are opened with, where the days that are left are opened with these.
abbrev pub AreOpenedSo : List DayText → List Kept → List DayText → Type 0
AreOpenedSo all books left = (rest : List Day) → AllZip IsOpenedWith (map opened left) rest → AllZip IsOpenedWith (map opened all) (map (λ b. b.day) books ++ rest)

pub opened_more : (all left rest : List DayText) (books : List Kept) (d : DayText) (moments : List ℕ) (b : Kept) → left ≡ d ∷ rest
    → AreOpenedSo all books left → IsCalendarFor (opened d) moments → b.day ≡ day_in (opened d) moments → AreOpenedSo all (books ++ b ∷ []) rest
opened_more all left rest books d moments b is so calendar own days zip =
    let day : Kept → Day = λ x. x.day in
    let front : AllZip IsOpenedWith (map opened left) (b.day ∷ days) =
    subst (λ (l : List DayText). AllZip IsOpenedWith (map opened l) (b.day ∷ days)) (sym is) ((moments, calendar, own), zip) in
    let same : map day books ++ b.day ∷ days ≡ map day (books ++ b ∷ []) ++ days =
    sym (append_assoc (map day books) (b.day ∷ []) days) ∙ ap (λ (l : List Day). l ++ days) (sym (map-append day books (b ∷ []))) in
    subst (λ (l : List Day). AllZip IsOpenedWith (map opened all) l) same (so (b.day ∷ days) front)

pub opened_all : (all left : List DayText) (books : List Kept) → left ≡ [] → AreOpenedSo all books left → AllZip IsOpenedWith (map opened all) (map (λ b. b.day) books)
opened_all all left books none so =
    let end : AllZip IsOpenedWith (map opened left) [] = subst (λ (l : List DayText). AllZip IsOpenedWith (map opened l) []) (sym none) tt in
    subst (λ (l : List Day). AllZip IsOpenedWith (map opened all) l) (append-nil (map (λ b. b.day) books)) (so [] end)

-- the calendars that are left are those of the days that are left
pub calendar_first : (left rest : List DayText) (calendars others : List (List ℕ)) (d : DayText) (moments : List ℕ) → left ≡ d ∷ rest → calendars ≡ moments ∷ others
    → AllZip IsCalendarFor (map opened left) calendars → IsCalendarFor (opened d) moments × AllZip IsCalendarFor (map opened rest) others
calendar_first left rest calendars others d moments is own zip =
    let P : List DayText → List (List ℕ) → Type 0 = λ l m. AllZip IsCalendarFor (map opened l) m in
    let first : P (d ∷ rest) calendars = subst (λ (l : List DayText). P l calendars) is zip in
    let both : P (d ∷ rest) (moments ∷ others) = subst (λ (m : List (List ℕ)). P (d ∷ rest) m) own first in
    (both.0, both.1)
