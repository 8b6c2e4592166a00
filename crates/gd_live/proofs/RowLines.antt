-- Lines that are rows.
use Rattle.std.proofs.Common.{◌≡◌, ℕ, ◌||◌, Bool, true, false, List, [], ◌∷◌, Ok, refl, ap, ◌∙◌, arith}
use Rattle.std.specs.Prelude.{◌==◌, Some, None, if◌then◌else◌}
use Rattle.std.specs.List.{AllByRecursion}
use Rattle.gd_text_part.specs.Lines.{IsPlain, cut_at_commas, is_mark, is_marked, line_of, row_in}
use Rattle.gd_text_part.specs.Places.{row_of}
use Rattle.gd_text_part.specs.declared.kind.Form.TheVariants as form
use Rattle.gd_text_part.specs.declared.order.Place.{Place}
use Rattle.gd_text_part.specs.declared.row.Row.{Row}
use Rattle.gd_live.proofs.Plain.{inner}

abbrev IsUnmarked : List ℕ → Type 0
IsUnmarked line = AllByRecursion (λ c. (c == 34 || (c == 13 || c == 10)) ≡ false) line

each_unmarked : (line : List ℕ) → is_marked line ≡ false → IsUnmarked line
each_unmarked [] h = tt
each_unmarked (c ∷ line) h = let both = inner (is_mark c) (is_marked line) h in (both.0, each_unmarked line both.1)

unmarked : (line : List ℕ) → IsUnmarked line → is_marked line ≡ false
unmarked [] all = refl
unmarked (c ∷ line) all = ap (λ b. b || is_marked line) all.0 ∙ unmarked line all.1

read_unmarked : (place : Place) (n : ℕ) (line : List ℕ) (b : Bool) (taken : Row × Place)
    → row_in place n (if b then None else Some (cut_at_commas [] line)) ≡ Ok taken → b ≡ false
read_unmarked place n line true taken h = absurd cc
read_unmarked place n line false taken h = refl

pub rows_plain : (place : Place) (n : ℕ) (line : List ℕ) (taken : Row × Place) → line_of place n line ≡ Ok taken → IsPlain line
rows_plain place n [] taken h = absurd cc
rows_plain place n (c ∷ line) taken h =
    record { some = omega arith; plain = each_unmarked (c ∷ line) (read_unmarked place n (c ∷ line) (is_marked (c ∷ line)) taken h) }

pub plain_rows : (place : Place) (n : ℕ) (line : List ℕ) → IsPlain line → line_of place n line ≡ row_of form.Day place n (cut_at_commas [] line)
plain_rows place n line plain = rw (unmarked line plain.plain) refl
