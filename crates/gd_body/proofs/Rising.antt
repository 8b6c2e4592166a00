-- Whether bumped lines rise, as it is found one after the other, and what it means.
use Rattle.std.proofs.Common.{◌≡◌, ℕ, zero, suc, ◌+◌, ◌<◌, Bool, true, false, List, [], ◌∷◌, length, get_or, map, drop, Some, None, Result, Ok, Err, All, refl, sym, ap, subst, ◌∙◌, if◌then◌else◌, arith}
use Rattle.std.specs.Prelude.{◌&&◌, nat_le, nat_lt}
use Rattle.std.specs.Bool.{Decides}
use Rattle.std.specs.List.{list_all}
use Rattle.std.specs.List.Sorted.{IsStrictlyIncreasing}
use Rattle.std.proofs.lemmas.Bool.Decides.{nat_tests, Decides-by_and, Decides-and, Decides-ltb, Decides-like}
use Rattle.std.proofs.lemmas.Bool.{false≢true}
use Rattle.std.proofs.lemmas.List.{drop_more}
use Rattle.std.proofs.lemmas.Option.{none-some, same_Some}
use Rattle.gd_board.specs.declared.posting.Posting.{Posting}
use Rattle.gd_text_part.specs.Texts.{rows_of}
use Rattle.gd_text_part.specs.declared.fault.RowFault.{RowFault}
use Rattle.gd_text_part.specs.declared.fault.TextFault.{TextFault}
use Rattle.gd_text_part.specs.declared.kind.Form.TheVariants as form
use Rattle.gd_text_part.specs.declared.row.Row.{Row}
use Rattle.gd_body.specs.Body.{is_within, posting_found, posting_in, posting_of, posting_under, rises, rises_within}

-- each of these lines is one of so many, and each is at least the first that may come then
abbrev pub rises_from : ℕ → ℕ → List (ℕ × ℕ) → Bool
rises_from first count [] = true
rises_from first count (b ∷ bumped) = (nat_le first b.0 && nat_lt b.0 count) && rises_from (b.0 + 1) count bumped

abbrev from_first : ℕ → List (ℕ × ℕ) → Bool
from_first first [] = true
from_first first (b ∷ bumped) = nat_le first b.0

one_left : (a b : Bool) → ((a && b) && true) ≡ (a && ((b && true) && true))
one_left true true = refl
one_left true false = refl
one_left false b = refl

two_left : (a b c d e f : Bool) → ((a && b) && (c && ((d && e) && f))) ≡ (a && ((b && (d && e)) && (c && f)))
two_left true true true d e f = refl
two_left true true false true true f = refl
two_left true true false true false f = refl
two_left true true false false e f = refl
two_left true false c d e f = refl
two_left false b c d e f = refl

next_is : (a b : ℕ) → nat_le (a + 1) b ≡ nat_lt a b
next_is a b = let e : a + 1 ≡ suc a = omega arith in ap (λ n. nat_le n b) e

from_is : (first count : ℕ) (bumped : List (ℕ × ℕ)) → rises_from first count bumped ≡ (from_first first bumped && rises_within count bumped)
from_is first count [] = refl
from_is first count (b ∷ []) = one_left (nat_le first b.0) (nat_lt b.0 count)
from_is first count (b ∷ c ∷ bumped) =
    ap (λ v. (nat_le first b.0 && nat_lt b.0 count) && v) (from_is (b.0 + 1) count (c ∷ bumped))
    ∙ ap (λ v. (nat_le first b.0 && nat_lt b.0 count) && (v && rises_within count (c ∷ bumped))) (next_is b.0 c.0)
    ∙ two_left (nat_le first b.0) (nat_lt b.0 count) (nat_lt b.0 c.0) (nat_lt c.0 count) (list_all (λ x. nat_lt x.0 count) bumped) (rises (map (λ x. x.0) (c ∷ bumped)))

any_first : (bumped : List (ℕ × ℕ)) → from_first 0 bumped ≡ true
any_first [] = refl
any_first (b ∷ bumped) = grind (arith, nat_tests)

-- from the first line of all
pub rises_from_none : (count : ℕ) (bumped : List (ℕ × ℕ)) → rises_from 0 count bumped ≡ rises_within count bumped
rises_from_none count bumped = from_is 0 count bumped ∙ ap (λ v. v && rises_within count bumped) (any_first bumped)

increasing : (xs : List ℕ) → Decides (rises xs) (IsStrictlyIncreasing xs)
increasing [] = (λ e k low. absurd (omega (arith, low)), λ h. refl)
increasing (x ∷ []) = (λ e k low. absurd (omega (arith, low)), λ h. refl)
increasing (x ∷ y ∷ xs) = Decides-like (nat_lt x y && rises (y ∷ xs)) there back (Decides-and (nat_lt x y) (rises (y ∷ xs)) (Decides-ltb x y) (increasing (y ∷ xs)))
  where
    there : (x < y) × IsStrictlyIncreasing (y ∷ xs) → IsStrictlyIncreasing (x ∷ y ∷ xs)
    there h zero low = h.0
    there h (suc k) low = let e : suc k + 1 ≡ suc (k + 1) = omega arith in rw e (h.1 k (omega (arith, low)))

    back : IsStrictlyIncreasing (x ∷ y ∷ xs) → (x < y) × IsStrictlyIncreasing (y ∷ xs)
    back h = (h 0 (omega arith), λ k low. let e : suc k + 1 ≡ suc (k + 1) = omega arith in rw e at (h (suc k) (omega (arith, low))))

-- the lines are some of so many, and their numbers increase
pub rises_decides : (count : ℕ) (bumped : List (ℕ × ℕ)) → Decides (rises_within count bumped) (All (λ b. b.0 < count) bumped × IsStrictlyIncreasing (map (λ b. b.0) bumped))
rises_decides count bumped =
    Decides-and (list_all (λ b. nat_lt b.0 count) bumped) (rises (map (λ b. b.0) bumped))
    (Decides-by_and (λ b. nat_lt b.0 count) (λ b. b.0 < count) (list_all (λ b. nat_lt b.0 count)) (λ b. Decides-ltb b.0 count) refl (λ _ _. refl) bumped)
    (increasing (map (λ b. b.0) bumped))

-- one bumped line more
pub rises_more : (bumped : List (ℕ × ℕ)) (at : ℕ) (b : ℕ × ℕ) (first count : ℕ) → at < length bumped → b ≡ get_or bumped at b
    → rises_from first count (drop at bumped) ≡ ((nat_le first b.0 && nat_lt b.0 count) && rises_from (b.0 + 1) count (drop (at + 1) bumped))
rises_more bumped at b first count below is =
    ap (rises_from first count) (drop_more bumped at b below ∙ ap (λ (x : ℕ × ℕ). x ∷ drop (at + 1) bumped) (sym is))

-- where it is within the lines
pub goes_on : (within rest whole : Bool) → (within && rest) ≡ whole → within ≡ true → rest ≡ whole
goes_on true rest whole so is = so
goes_on false rest whole so is = absurd (false≢true is)

-- where it isn't
pub ends_there : (within rest whole : Bool) → (within && rest) ≡ whole → within ≡ false → false ≡ whole
ends_there true rest whole so is = absurd (false≢true (sym is))
ends_there false rest whole so is = so

abbrev RisesIn : Posting → Type 0
RisesIn p = rises_within (length p.question.asked.lines) p.bumped ≡ true

found_rises : (told : Result Posting TextFault) (p : Posting) → posting_found told ≡ Some p → RisesIn p
found_rises (Err f) p e = absurd (none-some p e)
found_rises (Ok q) p e = go (rises_within (length q.question.asked.lines) q.bumped) refl e
  where
    go : (v : Bool) → rises_within (length q.question.asked.lines) q.bumped ≡ v → (if v then Some q else None) ≡ Some p → RisesIn p
    go true rises same = subst RisesIn (same_Some q p same) rises
    go false rises same = absurd (none-some p same)

under_rises : (rows : Result (List Row) RowFault) (p : Posting) → posting_under rows ≡ Some p → RisesIn p
under_rises (Ok rows) p e = found_rises (posting_of rows) p e
under_rises (Err f) p e = absurd (none-some p e)

-- a posting that a text says has such lines
pub said_rises : (text : List ℕ) (p : Posting) → posting_in text ≡ Some p → RisesIn p
said_rises text p said = go (is_within text) said
  where
    go : (v : Bool) → (if v then posting_under (rows_of form.Body text) else None) ≡ Some p → RisesIn p
    go true e = under_rises (rows_of form.Body text) p e
    go false e = absurd (none-some p e)
