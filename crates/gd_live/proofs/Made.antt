-- A call behind the rows that wait for it.
use Rattle.std.proofs.Common.{◌≡◌, inr, ℕ, ◌+◌, List, [], ◌∷◌, ◌++◌, length, map, None, Result, Ok, refl, sym, ap, subst, ◌∙◌, append-nil}
use Rattle.std.specs.List.{AllByRecursion}
use Rattle.std.proofs.lemmas.List.{append_assoc, length-map}
use Rattle.std.proofs.lemmas.Grind.{flat_map-append}
use Rattle.gd_text_part.specs.Lines.{behind_opening, cut_at_commas, IsPlain, line_of}
use Rattle.gd_text_part.specs.Places.{row_of}
use Rattle.gd_text_part.specs.declared.fault.RowFault.{RowFault}
use Rattle.gd_text_part.specs.declared.kind.Form.TheVariants as form
use Rattle.gd_text_part.specs.declared.order.Place.{Place}
use Rattle.gd_text_part.specs.declared.row.EventRow.{EventRow}
use Rattle.gd_text_part.specs.declared.row.Row.{Row}
use Rattle.gd_text_part.specs.declared.row.Row.TheVariants as row
use Rattle.gd_serving.specs.Lines.{text_of_lines}
use Rattle.gd_live.specs.Fronts.{front_from, longer_front}
use Rattle.gd_live.proofs.Fronts.{fronts_join}
use Rattle.gd_live.proofs.AmongCalls.{calls_behind}
use Rattle.gd_live.proofs.Renumbered.{anywhere}
use Rattle.gd_live.proofs.RowLines.{rows_plain, plain_rows}
use Rattle.gd_day.specs.Calls.{Call, event_of, calls_after, calls_of}
use Rattle.gd_day.specs.Groups.{AllPass, Passes}
use Rattle.gd_machine.specs.Day.{Day}
use Rattle.gd_machine.specs.History.{History}
use Rattle.gd_replies.specs.Lines.{lines_of}
use Rattle.gd_replies.specs.declared.reply.Reply.{Reply}
use Rattle.gd_course.specs.Course.{RowGives, Runs}
use Rattle.gd_live.specs.Kept.{AreCalls}
use Rattle.gd_live.specs.Stands.{Group, IsGroup, with_line}
use Rattle.gd_live.proofs.Joining.{all_join, map_join}

-- what is a row is the row that its fields are
pub is_read : (place : Place) (n : ℕ) (line : List ℕ) (x : Row × Place) → line_of place n line ≡ Ok x → row_of form.Day place n (cut_at_commas [] line) ≡ Ok x
is_read place n line x is = sym (plain_rows place n line (rows_plain place n line x is)) ∙ is

-- the bytes of the lines of a group, and of the line behind it
pub with_line_is : (bytes line : List ℕ) (lines : List (List ℕ)) → bytes ≡ text_of_lines lines → bytes ++ line ++ 10 ∷ [] ≡ text_of_lines (lines ++ line ∷ [])
with_line_is bytes line lines are =
    ap (λ (l : List ℕ). l ++ line ++ 10 ∷ []) are
    ∙ append_assoc (text_of_lines lines) line (10 ∷ [])
    ∙ ap (λ (l : List ℕ). text_of_lines lines ++ l) (sym (append-nil (line ++ 10 ∷ [])))
    ∙ sym (flat_map-append (λ (l : List ℕ). l ++ 10 ∷ []) lines (line ∷ []))

one_more : (n : ℕ) (place : Place) (fields : List (List ℕ)) (r : Row) (next : Place) → row_of form.Day place (n + 1) fields ≡ Ok (r, next)
    → front_from form.Day place n (fields ∷ []) ≡ Ok (r ∷ [], next)
one_more n place fields r next is = rw is refl

module _ (began : ℕ) (g : Group) (lines : List (List ℕ)) (line : List ℕ) (r : Row) (place : Place)
    (reads : front_from form.Day behind_opening began (map (cut_at_commas []) lines) ≡ Ok (g.rows, g.place))
    (is : line_of g.place (began + length (map (cut_at_commas []) lines) + 1) line ≡ Ok (r, place)) where
  last : front_from form.Day g.place (began + length (map (cut_at_commas []) lines)) (cut_at_commas [] line ∷ []) ≡ Ok (r ∷ [], place)
  last = one_more (began + length (map (cut_at_commas []) lines)) g.place (cut_at_commas [] line) r place (is_read g.place _ line (r, place) is)

  longer : (x y : Result (List Row × Place) RowFault) → x ≡ Ok (g.rows, g.place)
      → longer_front form.Day x (began + length (map (cut_at_commas []) lines)) (cut_at_commas [] line ∷ []) ≡ Ok (g.rows ++ r ∷ [], place)
  longer x y it = rw it (rw last refl)

  -- the rows behind a row more
  pub reads_more : front_from form.Day behind_opening began (map (cut_at_commas []) (lines ++ line ∷ [])) ≡ Ok (g.rows ++ r ∷ [], place)
  reads_more =
      ap (front_from form.Day behind_opening began) (map_join (cut_at_commas []) lines (line ∷ []))
      ∙ fronts_join form.Day behind_opening began (map (cut_at_commas []) lines) (cut_at_commas [] line ∷ [])
      ∙ longer _ (Ok (g.rows, g.place)) reads

-- no row that waits is a call
one_call : (n : ℕ) (g rows : List Row) (e : EventRow) → AllByRecursion (λ r. event_of r ≡ None) rows
    → calls_after n g (rows ++ row.Event e ∷ []) ≡ record { group = g ++ rows; first = n; event = e } ∷ []
one_call n g [] e none = ap (λ (l : List Row). record { group = l; first = n; event = e } ∷ []) (sym (append-nil g))
one_call n g (row.Event f ∷ rows) e none = let bad = none.0 in cc
one_call n g (r ∷ rows) e none =
    one_call n (g ++ r ∷ []) rows e none.1 ∙ ap (λ (l : List Row). record { group = l; first = n; event = e } ∷ []) (append_assoc g (r ∷ []) rows)

module _ (day : Day) (h after : History) (number : ℕ) (g : Group) (line : List ℕ) (e : EventRow) (place : Place) (told : List Reply)
    (waits : IsGroup number g) (is : line_of g.place (number + 1) line ≡ Ok (row.Event e, place))
    (passes : Passes day.holdings.pipeline g.rows) (gives : RowGives day h g.rows e told after) where
  same_number : number + 1 ≡ waits.began + length (map (cut_at_commas []) waits.lines) + 1
  same_number = ap (λ n. n + 1) (waits.number_is ∙ ap (λ n. waits.began + n) (sym waits.one_each ∙ sym (length-map waits.lines (cut_at_commas []))))

  all_read : front_from form.Day behind_opening waits.began (map (cut_at_commas []) (waits.lines ++ line ∷ [])) ≡ Ok (g.rows ++ row.Event e ∷ [], place)
  all_read = reads_more waits.began g waits.lines line (row.Event e) place waits.reads (subst (λ n. line_of g.place n line ≡ Ok (row.Event e, place)) same_number is)

  back : place ≡ behind_opening
  back = calls_behind g.place (number + 1) (cut_at_commas [] line) e place waits.among (is_read g.place (number + 1) line (row.Event e, place) is)

  again : front_from form.Day behind_opening 0 (map (cut_at_commas []) (waits.lines ++ line ∷ [])) ≡ Ok (g.rows ++ row.Event e ∷ [], behind_opening)
  again = anywhere waits.began 0 (map (cut_at_commas []) (waits.lines ++ line ∷ [])) (g.rows ++ row.Event e ∷ []) (subst (λ p. front_from form.Day behind_opening waits.began (map (cut_at_commas []) (waits.lines ++ line ∷ [])) ≡ Ok (g.rows ++ row.Event e ∷ [], p)) back all_read)

  one : calls_of (g.rows ++ row.Event e ∷ []) ≡ record { group = g.rows; first = 1; event = e } ∷ []
  one = one_call 1 [] g.rows e waits.wait

  -- the lines of a call and its group are kept
  pub made_kept : AreCalls day h (with_line g line) (lines_of told) after
  made_kept = record {
    lines = waits.lines ++ line ∷ [];
    plain = all_join IsPlain waits.lines (line ∷ []) waits.plain (rows_plain g.place (number + 1) line (row.Event e, place) is, tt);
    bytes = with_line_is g.bytes line waits.lines waits.bytes;
    read = g.rows ++ row.Event e ∷ [];
    reads = again;
    whole = inr (g.rows, e, refl);
    passes = subst (λ (l : List Call). AllPass day.holdings.pipeline l) (sym one) (passes, tt);
    told = told;
    runs = subst (λ (l : List Call). Runs day h l told after) (sym one) (after, told, [], gives, (refl, refl), sym (append-nil told));
    replies_are = refl;
  }
