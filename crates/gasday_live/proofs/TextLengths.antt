-- The text of a book that was made again is no longer than a text may be.
use Rattle.std.proofs.Common.{◌≡◌, ◌≢◌, inl, inr, ℕ, suc, ◌+◌, ◌-◌, ◌≤◌, List, [], ◌∷◌, ◌++◌, length, map, Ok, refl, sym, ap, subst, ◌∙◌, arith, append_assoc, append-nil, length-append}
use Rattle.std.specs.List.{AllByRecursion}
use Rattle.std.proofs.lemmas.List.{length-map}
use Rattle.std.proofs.lemmas.Grind.{flat_map-append}
use Rattle.csv.proofs.OnLiterals.{csv_on_literals}
use Rattle.csv.specs.Reading.{strip_bom}
use Rattle.gd_text_part.specs.Csv.{records_of}
use Rattle.gd_text_part.specs.Lines.{IsPlain, bare, cut_at_commas, line_of}
use Rattle.gd_text_part.specs.Places.{start, row_of, at_end}
use Rattle.gd_text_part.specs.Texts.{IsWithin, rows_from, rows_of as rows_in}
use Rattle.gd_text_part.specs.declared.fault.RowFault.{RowFault}
use Rattle.gd_text_part.specs.declared.input.TheConstants.{MAX_BYTES}
use Rattle.gd_text_part.specs.declared.kind.Form.TheVariants as form
use Rattle.gd_text_part.specs.declared.order.Place.{Place}
use Rattle.gd_text_part.specs.declared.records.TheConstants.{MAX_ROWS}
use Rattle.gd_text_part.specs.declared.row.EventRow.{EventRow}
use Rattle.gd_text_part.specs.declared.row.Row.{Row}
use Rattle.gd_live.specs.TextLines.{IsClosed}
use Rattle.gd_serving.specs.Lines.{text_of_lines}
use Rattle.gd_live.proofs.AmongCalls.{bound, inside}
use Rattle.gd_journal_store.specs.Pieces.{Piece}
use Rattle.gd_serving.specs.Runs.{AreOf, rows_text}
use Rattle.gd_serving.specs.Yields.{Yield, LinesGive, rows_of}
use Rattle.gd_live.specs.Lines.{RowDoes, BareGives, Gives, IsMade, counted}
use Rattle.gd_live.specs.Stands.{Group, IsGroup, Room, Stand}
use Rattle.gasday_live.specs.Books.{BooksGrow, HasCalls, new_stand}
use Rattle.gasday_live.specs.Texts.{BooksAreDays, KeptBooksAreDays, ServedBooksAreDays}
use Rattle.gasday_live.proofs.Stands.{none_waits}

-- the laws of lines, as they are told
abbrev pub RowsArePlain : Type 0
RowsArePlain = (place : Place) (n : ℕ) (line : List ℕ) (taken : Row × Place) → line_of place n line ≡ Ok taken → IsPlain line

abbrev pub RecordsFollow : Type 0
RecordsFollow =
    (text : List ℕ) (lines : List (List ℕ)) → text ≢ [] → IsClosed (strip_bom text) → AllByRecursion IsPlain lines
    → records_of (text ++ text_of_lines lines) ≡ records_of text ++ map (cut_at_commas []) lines

-- ---- what lines take of the room

-- The bytes are plain lines, and there is so much less room behind them.
pub record TakesRoom (room after : Room) (bytes : List ℕ) : Type 0 where
  pub lines : List (List ℕ)
  pub plain : AllByRecursion IsPlain lines
  pub are : bytes ≡ text_of_lines lines
  pub rows_left : after.rows + length lines ≡ room.rows
  pub bytes_left : after.bytes + length bytes ≡ room.bytes

takes_nothing : (room after : Room) (bytes : List ℕ) → after ≡ room → bytes ≡ [] → TakesRoom room after bytes
takes_nothing room after bytes same none = rw (same, none) (record { lines = []; plain = tt; are = refl; rows_left = omega arith; bytes_left = omega arith })

all_plain : (xs ys : List (List ℕ)) → AllByRecursion IsPlain xs → AllByRecursion IsPlain ys → AllByRecursion IsPlain (xs ++ ys)
all_plain [] ys a b = b
all_plain (x ∷ xs) ys a b = (a.0, all_plain xs ys a.1 b)

text_of_both : (xs ys : List (List ℕ)) → text_of_lines (xs ++ ys) ≡ text_of_lines xs ++ text_of_lines ys
text_of_both xs ys = flat_map-append (λ (line : List ℕ). line ++ 10 ∷ []) xs ys

takes_both : (room mid after : Room) (front rest : List ℕ) → TakesRoom room mid front → TakesRoom mid after rest → TakesRoom room after (front ++ rest)
takes_both room mid after front rest a b = record {
  lines = a.lines ++ b.lines;
  plain = all_plain a.lines b.lines a.plain b.plain;
  are = ap (λ (l : List ℕ). l ++ rest) a.are ∙ ap (λ (l : List ℕ). text_of_lines a.lines ++ l) b.are ∙ sym (text_of_both a.lines b.lines);
  rows_left = omega (arith, a.rows_left, b.rows_left, length-append a.lines b.lines);
  bytes_left = omega (arith, a.bytes_left, b.bytes_left, length-append front rest);
}

-- the text of a group's lines, and of the line behind it
with_line_is : (bytes line : List ℕ) (lines : List (List ℕ)) → bytes ≡ text_of_lines lines → bytes ++ line ++ 10 ∷ [] ≡ text_of_lines (lines ++ line ∷ [])
with_line_is bytes line lines are = rw (are, text_of_both lines (line ∷ [])) (simp (append_assoc, append-nil))

-- a call takes the lines of its group, and its own
made_takes : (s t : Stand) (number : ℕ) (g : Group) (line : List ℕ) (e : EventRow) (y : Yield) → IsGroup number g → IsPlain line → IsMade s g line e t y → TakesRoom s.room t.room y.rows
made_takes s t number g line e y waits plain made =
    subst (λ (x : Yield). TakesRoom s.room t.room x.rows) (sym made.yield_is) (record {
      lines = waits.lines ++ line ∷ [];
      plain = all_plain waits.lines (line ∷ []) waits.plain (plain, tt);
      are = with_line_is g.bytes line waits.lines waits.bytes;
      rows_left = omega (arith, made.room.rows, waits.one_each, length-append waits.lines (line ∷ []));
      bytes_left = made.room.bytes;
    })

module _ (are_plain : RowsArePlain) where
  row_takes : (s t : Stand) (line : List ℕ) (y : Yield) → IsGroup s.number s.group → RowDoes (counted s) line t y → TakesRoom s.room t.room y.rows
  row_takes s t line y waits (inl (told, why, same, is)) = takes_nothing s.room t.room y.rows (ap (λ (x : Stand). x.room) same) (ap (λ (x : Yield). x.rows) is)
  row_takes s t line y waits (inr (inl (r, place, isrow, room, other, same, is))) = takes_nothing s.room t.room y.rows (ap (λ (x : Stand). x.room) same) (ap (λ (x : Yield). x.rows) is)
  row_takes s t line y waits (inr (inr (r, place, e, isrow, room, event, inl (made, settle)))) =
      made_takes (counted s) t s.number s.group line e y waits (are_plain s.group.place (s.number + 1) line (r, place) isrow) made
  row_takes s t line y waits (inr (inr (r, place, e, isrow, room, event, inr (moment, settles, (g, last, concluding, conclusion, made, more))))) =
      made_takes (counted s) t (length g.rows) g last concluding y conclusion.group (are_plain g.place (length g.rows + 1) last _ conclusion.reads) made

  bare_takes : (s t : Stand) (line : List ℕ) (y : Yield) → IsGroup s.number s.group → BareGives s line t y → TakesRoom s.room t.room y.rows
  bare_takes s t line y waits (inl (none, same, is)) = takes_nothing s.room t.room y.rows (ap (λ (x : Stand). x.room) same) (ap (λ (x : Yield). x.rows) is)
  bare_takes s t line y waits (inr (some, row)) = row_takes s t line y waits row

  -- all that is kept of lines
  pub lines_take : (s t : Stand) (lines : List (List ℕ)) (ys : List Yield) → IsGroup s.number s.group → LinesGive Gives s lines t ys → TakesRoom s.room t.room (rows_of ys)
  lines_take s t [] [] waits same = takes_nothing s.room t.room [] (ap (λ (x : Stand). x.room) same) refl
  lines_take s t [] (y ∷ ys) waits bad = absurd bad
  lines_take s t (line ∷ lines) [] waits bad = absurd bad
  lines_take s t (line ∷ lines) (y ∷ ys) waits (mid, gives, later) =
      let it = gives waits in takes_both s.room mid.room t.room y.rows (rows_of ys) (bare_takes s mid (bare line) y waits it.0) (lines_take mid t lines ys it.1 later)

-- ---- the opening

-- a row for each record
rows_counted : (place : Place) (n : ℕ) (records : List (List (List ℕ))) (rows : List Row) → rows_from form.Day place n records ≡ Ok rows → length rows ≡ length records
unfolding rows_from
rows_counted place n [] rows h =
    let ended = bound (at_end place n) _ rows h in ap (λ (l : List Row). length l) (sym (inside RowFault [] rows ended.2))
rows_counted place n (fields ∷ records) rows h =
    let taken = bound (row_of form.Day place (n + 1) fields) _ rows h in
    let front = bound (rows_from form.Day taken.0.1 (n + 1) records) _ rows taken.2 in
    ap (λ (l : List Row). length l) (sym (inside RowFault (taken.0.0 ∷ front.0) rows front.2)) ∙ ap suc (rows_counted taken.0.1 (n + 1) records front.0 front.1)

-- no bytes are no opening
nothing_opens : (rows : List Row) → rows_in form.Day [] ≡ Ok rows → ⊥
unfolding rows_from csv_on_literals
nothing_opens rows h = cc

-- ---- the text

-- as much as was left behind what was had
no_more : (most had more left : ℕ) → had ≤ most → left + more ≡ most - had → had + more ≤ most
no_more most had more left few is = omega arith

module _ (follow : RecordsFollow) (opening bytes : List ℕ) (rows : List Row) (closed : IsClosed (strip_bom opening)) (within : IsWithin opening)
    (reads : rows_in form.Day opening ≡ Ok rows) (after : Room) (takes : TakesRoom (record { rows = MAX_ROWS - length rows; bytes = MAX_BYTES - length opening }) after bytes) where
  few_bytes : length (opening ++ bytes) ≤ MAX_BYTES
  few_bytes = rw (length-append opening bytes) (no_more MAX_BYTES (length opening) (length bytes) after.bytes within.bytes takes.bytes_left)

  counted_rows : length rows ≡ length (records_of opening)
  counted_rows = rows_counted start 0 (records_of opening) rows reads

  some : opening ≢ []
  some e = nothing_opens rows (subst (λ (text : List ℕ). rows_in form.Day text ≡ Ok rows) e reads)

  record_count : length (records_of (opening ++ bytes)) ≡ length (records_of opening) + length takes.lines
  record_count =
      ap (λ (l : List ℕ). length (records_of (opening ++ l))) takes.are ∙ ap (λ (l : List (List (List ℕ))). length l) (follow opening takes.lines some closed takes.plain)
      ∙ length-append (records_of opening) (map (cut_at_commas []) takes.lines) ∙ ap (λ k. length (records_of opening) + k) (length-map takes.lines (cut_at_commas []))

  few_rows : length (records_of (opening ++ bytes)) ≤ MAX_ROWS
  few_rows = rw record_count (no_more MAX_ROWS (length (records_of opening)) (length takes.lines) after.rows within.rows (takes.rows_left ∙ ap (λ k. MAX_ROWS - k) counted_rows))

  pub text_within : IsWithin (opening ++ bytes)
  text_within = record { bytes = few_bytes; rows = few_rows }

-- the text of pieces whose lines were taken behind their opening
pub stands_within : RowsArePlain → RecordsFollow → (ps : List Piece) (calls : ℕ) (s : Stand) → HasCalls ps calls s → IsWithin (rows_text ps)
stands_within are_plain follow ps calls s has =
    let new = new_stand s.day has.opening has.rows in
    let takes = lines_take are_plain new has.last has.lines has.yields (none_waits new refl) has.gave in
    let within = text_within follow has.opening (rows_of has.yields) has.rows has.opens.closed has.opens.within has.opens.reads has.last.room takes in
    subst (λ (l : List Piece). IsWithin (rows_text l)) (sym has.pieces) (subst (λ (bytes : List ℕ). IsWithin (has.opening ++ bytes)) (sym has.are.rows) within)

pub kept_books_are_days : BooksAreDays → RowsArePlain → RecordsFollow → KeptBooksAreDays
kept_books_are_days days are_plain follow ps calls s stands holds = days ps s.day s.history stands.book holds (stands_within are_plain follow ps calls s stands.counted)

-- ---- lines behind those

-- the text of pieces with what is kept of lines behind theirs
served_within : RowsArePlain → RecordsFollow → (ps more : List Piece) (calls : ℕ) (s t : Stand) (lines : List (List ℕ)) (ys : List Yield) → HasCalls ps calls s → IsGroup s.number s.group → LinesGive Gives s lines t ys → AreOf ys more
    → IsWithin (rows_text (ps ++ more))
served_within are_plain follow ps more calls s t lines ys has waits gave are =
    let new = new_stand s.day has.opening has.rows in
    let first = lines_take are_plain new has.last has.lines has.yields (none_waits new refl) has.gave in
    let later = subst (λ (room : Room). TakesRoom room t.room (rows_of ys)) has.room (lines_take are_plain s t lines ys waits gave) in
    let takes = takes_both new.room has.last.room t.room (rows_of has.yields) (rows_of ys) first later in
    let within = text_within follow has.opening (rows_of has.yields ++ rows_of ys) has.rows has.opens.closed has.opens.within has.opens.reads t.room takes in
    let text : rows_text (((has.opening, []) ∷ has.rest) ++ more) ≡ has.opening ++ (rows_of has.yields ++ rows_of ys) =
    flat_map-append (λ (p : Piece). p.0) ((has.opening, []) ∷ has.rest) more ∙ append_assoc has.opening (rows_text has.rest) (rows_text more)
    ∙ ap (λ (bytes : List ℕ). has.opening ++ (bytes ++ rows_text more)) has.are.rows ∙ ap (λ (bytes : List ℕ). has.opening ++ (rows_of has.yields ++ bytes)) are.rows in
    subst (λ (l : List Piece). IsWithin (rows_text (l ++ more))) (sym has.pieces) (subst IsWithin (sym text) within)

pub served_books_are_days : BooksAreDays → BooksGrow → RowsArePlain → RecordsFollow → ServedBooksAreDays
served_books_are_days days grow are_plain follow ps more calls s t lines ys stands gave are holds =
    let book = grow.grows s t lines ys ps more stands.book stands.group gave are in
    days (ps ++ more) t.day t.history book holds (served_within are_plain follow ps more calls s t lines ys stands.counted (none_waits s stands.group) gave are)
