-- Where a line leaves the rows that wait, and what is kept of it.
use Rattle.std.proofs.Common.{◌≡◌, inl, inr, ℕ, ◌+◌, List, [], ◌∷◌, ◌++◌, length, map, Bool, true, false, Option, Some, None, is_some, Result, Ok, Err, refl, sym, ap, subst, ◌∙◌, arith}
use Rattle.std.specs.Prelude.{OnOk}
use Rattle.std.proofs.lemmas.List.{length-map, length-append}
use Rattle.gd_text_part.specs.Lines.{cut_at_commas, IsPlain, bare, line_of}
use Rattle.gd_text_part.specs.declared.order.Place.{Place}
use Rattle.gd_text_part.specs.declared.row.EventRow.{EventRow}
use Rattle.gd_text_part.specs.declared.row.Row.{Row}
use Rattle.gd_text_part.specs.declared.row.Row.TheVariants as row
use Rattle.gd_day.specs.Calls.{event_of}
use Rattle.gd_machine.specs.Day.{Day}
use Rattle.gd_replies.specs.Lines.{lines_of}
use Rattle.gd_serving.specs.Yields.{Yield, Adds, LinesGive, rows_of, replies_of}
use Rattle.gd_live.specs.Kept.{AreCalls}
use Rattle.gd_live.specs.Stands.{Group, no_group, with_line, Stand, IsGroup}
use Rattle.gd_live.specs.Lines.{RowDoes, BareGives, LineGives, IsMade, Gives, counted}
use Rattle.gd_live.proofs.AmongCalls.{opening_among, rows_among}
use Rattle.gd_live.proofs.RowLines.{rows_plain}
use Rattle.gd_live.proofs.Joining.{all_join, none_kept, calls_join_on}
use Rattle.gd_live.proofs.Made.{is_read, with_line_is, reads_more, made_kept}

-- no row waits
pub none_waits : (number : ℕ) → IsGroup number no_group
none_waits number = record {
  lines = [];
  plain = tt;
  bytes = refl;
  began = number;
  number_is = omega arith;
  one_each = refl;
  reads = refl;
  among = opening_among;
  wait = tt;
}

-- one more row waits
pub one_waits : (number : ℕ) (g : Group) (line : List ℕ) (r : Row) (place : Place) → IsGroup number g → line_of g.place (number + 1) line ≡ Ok (r, place) → event_of r ≡ None
    → IsGroup (number + 1) (record { place = place; rows = g.rows ++ r ∷ []; bytes = with_line g line })
one_waits number g line r place waits is other =
    let same : number + 1 ≡ waits.began + length (map (cut_at_commas []) waits.lines) + 1 =
    ap (λ n. n + 1) (waits.number_is ∙ ap (λ n. waits.began + n) (sym waits.one_each ∙ sym (length-map waits.lines (cut_at_commas [])))) in
    record {
      lines = waits.lines ++ line ∷ [];
      plain = all_join IsPlain waits.lines (line ∷ []) waits.plain (rows_plain g.place (number + 1) line (r, place) is, tt);
      bytes = with_line_is g.bytes line waits.lines waits.bytes;
      began = waits.began;
      number_is = omega (arith, waits.number_is, length-append g.rows (r ∷ []));
      one_each = omega (arith, waits.one_each, length-append g.rows (r ∷ []), length-append waits.lines (line ∷ []));
      reads = reads_more waits.began g waits.lines line r place waits.reads (subst (λ n. line_of g.place n line ≡ Ok (r, place)) same is);
      among = (rows_among g.place (number + 1) (cut_at_commas [] line) r place waits.among (is_read g.place (number + 1) line (r, place) is)).1;
      wait = all_join (λ r. event_of r ≡ None) g.rows (r ∷ []) waits.wait (other, tt);
    }

-- the same where it is counted by the rows themselves
pub one_pushed : (g h : Group) (line : List ℕ) (r : Row) (place : Place) → IsGroup (length g.rows) g → line_of g.place (length g.rows + 1) line ≡ Ok (r, place) → event_of r ≡ None
    → h ≡ record { place = place; rows = g.rows ++ r ∷ []; bytes = with_line g line } → IsGroup (length h.rows) h
one_pushed g h line r place waits is other same =
    subst (λ (x : Group). IsGroup (length x.rows) x) (sym same)
    (subst (λ n. IsGroup n (record { place = place; rows = g.rows ++ r ∷ []; bytes = with_line g line })) (sym (length-append g.rows (r ∷ []))) (one_waits (length g.rows) g line r place waits is other))

pub no_event : {A : Type 0} (o : Option A) (b : Bool) → b ≡ is_some o → b ≡ false → o ≡ None
no_event None b is not = refl
no_event (Some x) b is not = let bad : true ≡ false = sym is ∙ not in cc

pub on_ok : {X E P Q : Type 0} (r : Result X E) → OnOk r P → (P → Q) → OnOk r Q
on_ok (Ok x) p f = f p
on_ok (Err e) p f = tt

pub event_row : (r : Row) (e : EventRow) → event_of r ≡ Some e → r ≡ row.Event e
event_row (row.Event f) e is = let same : f ≡ e = cc in ap row.Event same
event_row r e is = cc

-- behind a line the rows that wait are a group's, and what is kept are calls
pub record Stays (s t : Stand) (y : Yield) : Type 0 where
  pub waits : IsGroup t.number t.group
  pub kept : AreCalls s.day s.history y.rows y.replies t.history
  pub day : t.day ≡ s.day

nothing_kept : (s t : Stand) (y : Yield) → IsGroup t.number t.group → t.day ≡ s.day → t.history ≡ s.history → y.rows ≡ [] → y.replies ≡ [] → Stays s t y
nothing_kept s t y waits day history rows replies = record {
  waits = waits;
  kept = rw (rows, replies, history) (none_kept s.day s.history);
  day = day;
}

module _ (s t : Stand) (g : Group) (line : List ℕ) (e : EventRow) (place : Place) (number : ℕ) (y : Yield) (made : IsMade s g line e t y)
    (waits : IsGroup number g) (is : line_of g.place (number + 1) line ≡ Ok (row.Event e, place)) where
  calls : AreCalls s.day s.history (with_line g line) (lines_of made.told) t.history
  calls = made_kept s.day s.history t.history number g line e place made.told waits is made.passes made.gives

  pub made_stays : Stays s t y
  made_stays = record {
    waits = subst (λ (h : Group). IsGroup t.number h) (sym made.group) (none_waits t.number);
    kept = subst (λ (x : Yield). AreCalls s.day s.history x.rows x.replies t.history) (sym made.yield_is) calls;
    day = made.day;
  }

-- which number the row has makes no difference here
as_counted : (s t : Stand) (y : Yield) → Stays (counted s) t y → Stays s t y
as_counted s t y it = record { waits = it.waits; kept = it.kept; day = it.day }

does : (s t : Stand) (line : List ℕ) (y : Yield) → IsGroup s.number s.group → RowDoes (counted s) line t y → Stays s t y
does s t line y waits (inl (told, why, same, is)) =
    nothing_kept s t y (rw same (none_waits (s.number + 1))) (rw same refl) (rw same refl) (rw is refl) (rw is refl)
does s t line y waits (inr (inl (r, place, isrow, room, other, same, is))) =
    nothing_kept s t y (rw same (one_waits s.number s.group line r place waits isrow other)) (rw same refl) (rw same refl) (rw is refl) (rw is refl)
does s t line y waits (inr (inr (r, place, e, isrow, room, event, inl (made, settle)))) =
    as_counted s t y (made_stays (counted s) t s.group line e place s.number y made waits (rw (event_row r e event) at isrow))
does s t line y waits (inr (inr (r, place, e, isrow, room, event, inr (moment, settles, (g, last, concluding, conclusion, made, grew))))) =
    as_counted s t y (made_stays (counted s) t g last concluding conclusion.place (length g.rows) y made conclusion.group conclusion.reads)

bare_keeps : (s t : Stand) (line : List ℕ) (y : Yield) → IsGroup s.number s.group → BareGives s line t y → Stays s t y
bare_keeps s t line y waits (inl (none, same, is)) = nothing_kept s t y (rw same waits) (rw same refl) (rw same refl) (rw is refl) (rw is refl)
bare_keeps s t line y waits (inr (some, row)) = does s t line y waits row

pub line_keeps : (s t : Stand) (line : List ℕ) (y : Yield) → IsGroup s.number s.group → LineGives s line t y → Stays s t y
line_keeps s t line y waits gives = bare_keeps s t (bare line) y waits gives

-- what is kept of lines are calls
pub lines_keep : (s t : Stand) (lines : List (List ℕ)) (ys : List Yield) → IsGroup s.number s.group → LinesGive Gives s lines t ys → AreCalls s.day s.history (rows_of ys) (replies_of ys) t.history
lines_keep s t [] [] waits same = rw same (none_kept s.day s.history)
lines_keep s t [] (y ∷ ys) waits bad = absurd bad
lines_keep s t (line ∷ lines) [] waits bad = absurd bad
lines_keep s t (line ∷ lines) (y ∷ ys) waits (mid, gives, later) =
    let here = line_keeps s mid line y waits (gives waits).0 in
    let rest = lines_keep mid t lines ys (gives waits).1 later in
    calls_join_on s.day s.history mid.history t.history y.rows y.replies (rows_of ys) (replies_of ys) here.kept (subst (λ (d : Day). AreCalls d mid.history (rows_of ys) (replies_of ys) t.history) here.day rest)

-- a line that is taken leads from a group's rows to a group's
pub line_given : {X E : Type 0} (r : Result X E) (s t : Stand) (line : List ℕ) (old new : Yield) → OnOk r ((more : Yield) × LineGives s line t more × Adds old new more)
    → OnOk r ((more : Yield) × Gives s line t more × Adds old new more)
line_given (Ok x) s t line old new (more, gives, adds) = (more, (λ waits. (gives, (line_keeps s t line more waits gives).waits)), adds)
line_given (Err e) s t line old new given = tt
