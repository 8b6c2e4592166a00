-- What stands behind a closed text.
use Rattle.std.proofs.Common.{◌≡◌, ◌≢◌, ℕ, ◌+◌, List, [], ◌++◌, length, map, sym, subst, ap, ◌∙◌, arith}
use Rattle.std.specs.List.{AllByRecursion}
use Rattle.csv.specs.Reading.{default_config, records, strip_bom}
use Rattle.csv.specs.declared.parser.State.TheVariants as st
use Rattle.gd_text_part.specs.Csv.{records_of}
use Rattle.gd_text_part.specs.Places.{start}
use Rattle.gd_text_part.specs.Texts.{rows_from, rows_of}
use Rattle.gd_text_part.specs.declared.kind.Form.{Form}
use Rattle.gd_live.specs.Fronts.{front_from, front_of, longer_front, ended_front}
use Rattle.gd_text_part.specs.Lines.{IsPlain, cut_at_commas}
use Rattle.gd_live.specs.TextLines.{Left, left_by, IsClosed}
use Rattle.gd_serving.specs.Lines.{text_of_lines}
use Rattle.gd_live.proofs.Fronts.{rows_join, fronts_join}
use Rattle.gd_live.proofs.Joined.{joins, left_append}
use Rattle.gd_live.proofs.HeadMarks.{strip_joins}
use Rattle.gd_live.proofs.Plain.{lines_closed, lines_are}

pub text_joins : (text more : List ℕ) → text ≢ [] → IsClosed (strip_bom text) → records_of (text ++ more) ≡ records_of text ++ records default_config more
text_joins text more some closed = ap (records default_config) (strip_joins text more some closed) ∙ joins (strip_bom text) more closed

pub lines_follow : (text : List ℕ) (lines : List (List ℕ)) → text ≢ [] → IsClosed (strip_bom text) → AllByRecursion IsPlain lines
    → records_of (text ++ text_of_lines lines) ≡ records_of text ++ map (cut_at_commas []) lines
lines_follow text lines some closed plain = text_joins text (text_of_lines lines) some closed ∙ ap (λ more. records_of text ++ more) (lines_are lines plain)

pub closed_goes_on : (text : List ℕ) (lines : List (List ℕ)) → text ≢ [] → IsClosed (strip_bom text) → AllByRecursion IsPlain lines → IsClosed (strip_bom (text ++ text_of_lines lines))
closed_goes_on text lines some closed plain =
    let more = text_of_lines lines in
    let both : IsClosed (strip_bom text ++ more) =
    left_append st.StartRecord [] [] (strip_bom text) more ∙ ap (λ (l : Left). left_by l.0 l.1 l.2 more) closed ∙ lines_closed lines plain in
    subst IsClosed (sym (strip_joins text more some closed)) both

from_none : (n : ℕ) → 0 + n ≡ n
from_none n = omega arith

pub front_of_lines : (form : Form) (text : List ℕ) (lines : List (List ℕ)) → text ≢ [] → IsClosed (strip_bom text) → AllByRecursion IsPlain lines
    → front_of form (text ++ text_of_lines lines) ≡ longer_front form (front_of form text) (length (records_of text)) (map (cut_at_commas []) lines)
front_of_lines form text lines some closed plain =
    ap (front_from form start 0) (lines_follow text lines some closed plain)
    ∙ fronts_join form start 0 (records_of text) (map (cut_at_commas []) lines)
    ∙ ap (λ n. longer_front form (front_of form text) n (map (cut_at_commas []) lines)) (from_none (length (records_of text)))

pub rows_of_lines : (form : Form) (text : List ℕ) (lines : List (List ℕ)) → text ≢ [] → IsClosed (strip_bom text) → AllByRecursion IsPlain lines
    → rows_of form (text ++ text_of_lines lines) ≡ ended_front form (front_of form text) (length (records_of text)) (map (cut_at_commas []) lines)
rows_of_lines form text lines some closed plain =
    ap (rows_from form start 0) (lines_follow text lines some closed plain)
    ∙ rows_join form start 0 (records_of text) (map (cut_at_commas []) lines)
    ∙ ap (λ n. ended_front form (front_of form text) n (map (cut_at_commas []) lines)) (from_none (length (records_of text)))
