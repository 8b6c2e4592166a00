-- Plain lines.
use Rattle.std.proofs.Common.{◌≡◌, ℕ, ◌==◌, ◌||◌, Bool, true, false, List, [], ◌∷◌, ◌++◌, map, append-nil, refl, ap, ◌∙◌, arith, inl, inr}
use Rattle.std.specs.List.{AllByRecursion}
use Rattle.std.proofs.lemmas.List.{append_assoc}
use Rattle.std.proofs.lemmas.Bool.{cases_Bool}
use Rattle.csv.specs.Reading.{default_config, records}
use Rattle.csv.specs.declared.parser.State.TheVariants as st
use Rattle.gd_text_part.specs.Lines.{IsPlain, cut_at_commas}
use Rattle.gd_live.specs.TextLines.{Left, left_by, IsClosed}
use Rattle.gd_serving.specs.Lines.{text_of_lines}
use Rattle.gd_live.proofs.Joined.{ended_in, left_append, joins, all_of, at_end}

pub inner : (a b : Bool) → (a || b) ≡ false → (a ≡ false) × (b ≡ false)
inner true b h = absurd cc
inner false b h = (refl, h)

pub record Apart (c : ℕ) : Type 0 where
  pub quote : (c == 34) ≡ false
  pub cr : (c == 13) ≡ false
  pub lf : (c == 10) ≡ false

apart : (c : ℕ) → (c == 34 || (c == 13 || c == 10)) ≡ false → Apart c
apart c h =
    let one = inner (c == 34) _ h in
    let two = inner (c == 13) _ one.1 in
    record { quote = one.0; cr = two.0; lf = two.1 }

-- in a field the rest of a plain line ends its record
pub record Ends (fields : List (List ℕ)) (field line : List ℕ) : Type 0 where
  pub in_left : left_by st.InField fields field (line ++ 10 ∷ []) ≡ (st.StartRecord, [], [])
  pub in_ended : ended_in st.InField fields field (line ++ 10 ∷ []) ≡ (fields ++ cut_at_commas field line) ∷ []
  pub at_left : left_by st.StartField fields field (line ++ 10 ∷ []) ≡ (st.StartRecord, [], [])
  pub at_ended : ended_in st.StartField fields field (line ++ 10 ∷ []) ≡ (fields ++ cut_at_commas field line) ∷ []

pub line_ends : (line : List ℕ) → AllByRecursion (λ c. (c == 34 || (c == 13 || c == 10)) ≡ false) line → (fields : List (List ℕ)) (field : List ℕ) → Ends fields field line
line_ends [] all fields field = record { in_left = refl; in_ended = refl; at_left = refl; at_ended = refl }
line_ends (c ∷ line) all fields field =
    let far = apart c all.0 in
    elim (cases_Bool (c == 44)) [
      | inl comma ↦
          let next = line_ends line all.1 (fields ++ field ∷ []) [] in
          let same : ((fields ++ field ∷ []) ++ cut_at_commas [] line) ∷ [] ≡ (fields ++ field ∷ cut_at_commas [] line) ∷ [] = ap (λ l. l ∷ []) (append_assoc fields (field ∷ []) (cut_at_commas [] line)) in
          record {
            in_left = rw comma next.at_left;
            in_ended = rw comma (next.at_ended ∙ same);
            at_left = rw (far.quote, comma) next.at_left;
            at_ended = rw (far.quote, comma) (next.at_ended ∙ same);
          }
      | inr other ↦
          let next = line_ends line all.1 fields (field ++ c ∷ []) in
          record {
            in_left = rw (other, far.cr, far.lf) next.in_left;
            in_ended = rw (other, far.cr, far.lf) next.in_ended;
            at_left = rw (far.quote, other, far.cr, far.lf) next.in_left;
            at_ended = rw (far.quote, other, far.cr, far.lf) next.in_ended;
          }
    ]

-- a plain line is one record, and closed
pub one_line : (line : List ℕ) → IsPlain line → IsClosed (line ++ 10 ∷ []) × (ended_in st.StartRecord [] [] (line ++ 10 ∷ []) ≡ cut_at_commas [] line ∷ [])
one_line [] plain = absurd (omega (arith, plain.some))
one_line (c ∷ line) plain =
    let far = apart c plain.plain.0 in
    let it = line_ends (c ∷ line) plain.plain [] [] in
    (rw (far.cr, far.lf) (rw (far.cr, far.lf) at it.at_left), rw (far.cr, far.lf) (rw (far.cr, far.lf) at it.at_ended))

pub lines_closed : (lines : List (List ℕ)) → AllByRecursion IsPlain lines → IsClosed (text_of_lines lines)
lines_closed [] all = refl
lines_closed (line ∷ lines) all =
    left_append st.StartRecord [] [] (line ++ 10 ∷ []) (text_of_lines lines)
    ∙ ap (λ (l : Left). left_by l.0 l.1 l.2 (text_of_lines lines)) (one_line line all.0).0 ∙ lines_closed lines all.1

pub lines_are : (lines : List (List ℕ)) → AllByRecursion IsPlain lines → records default_config (text_of_lines lines) ≡ map (cut_at_commas []) lines
lines_are [] all = all_of []
lines_are (line ∷ lines) all =
    let one = one_line line all.0 in
    let alone : records default_config (line ++ 10 ∷ []) ≡ cut_at_commas [] line ∷ [] =
    all_of (line ++ 10 ∷ []) ∙ ap (λ (l : Left). ended_in st.StartRecord [] [] (line ++ 10 ∷ []) ++ at_end l) one.0 ∙ append-nil (ended_in st.StartRecord [] [] (line ++ 10 ∷ [])) ∙ one.1 in
    joins (line ++ 10 ∷ []) (text_of_lines lines) one.0 ∙ ap (λ l. l ++ records default_config (text_of_lines lines)) alone
    ∙ ap (λ l. cut_at_commas [] line ∷ l) (lines_are lines all.1)
