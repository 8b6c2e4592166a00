-- Records behind an opening are read alike behind its last row and behind its place.
use Rattle.std.proofs.Common.{◌≡◌, ◌≢◌, ℕ, ◌+◌, ◌≤◌, Bool, true, false, List, [], ◌∷◌, ◌++◌, length, map, Result, Ok, refl, ap, sym, subst, ◌∙◌, append-nil, arith, inl, inr}
use Rattle.std.specs.Prelude.{nat_le, ◌&&◌}
use Rattle.std.specs.List.{AllByRecursion}
use Rattle.std.proofs.lemmas.Bool.{leb-true, le-leb}
use Rattle.csv.proofs.OnLiterals.{csv_on_literals}
use Rattle.csv.specs.Reading.{strip_bom}
use Rattle.gd_text_part.specs.Csv.{records_of}
use Rattle.gd_text_part.specs.Kinds.{stage_of}
use Rattle.gd_text_part.specs.Lines.{IsPlain, behind_opening, cut_at_commas}
use Rattle.gd_text_part.specs.Places.{start, row_of, body, may_stand}
use Rattle.gd_text_part.specs.Rows.{◌>>=◌}
use Rattle.gd_text_part.specs.Texts.{rows_from, rows_of}
use Rattle.gd_text_part.specs.declared.fault.RowFault.{RowFault}
use Rattle.gd_text_part.specs.declared.kind.Form.TheVariants as form
use Rattle.gd_text_part.specs.declared.kind.RowKind.{RowKind}
use Rattle.gd_text_part.specs.declared.kind.RowKind.TheVariants as kind
use Rattle.gd_text_part.specs.declared.order.Place.{Place}
use Rattle.gd_text_part.specs.declared.row.Row.{Row}
use Rattle.gd_live.specs.Calls.{IsAmongCalls, is_of_call}
use Rattle.gd_live.specs.Fronts.{front_from, ended_front}
use Rattle.gd_live.specs.TextLines.{IsClosed}
use Rattle.gd_serving.specs.Lines.{text_of_lines}
use Rattle.gd_live.proofs.AmongCalls.{IsCallOrWaits, bound, inside, known, ok, opening_among, rows_among, stands_so, takes_it}
use Rattle.gd_live.proofs.Following.{rows_of_lines}
use Rattle.gd_live.proofs.Fronts.{rows_join}
use Rattle.gd_live.proofs.Renumbered.{anywhere}
use Rattle.gd_day.specs.Calls.{calls_of}
use Rattle.gd_live.proofs.OpeningRows.{LeavesOff, no_events, opened_at, opening_rows, start_quiet}

-- what may stand behind the place may stand behind a row before it
may_stand_too : (a b c d : Bool) → (a ≡ true → d ≡ true) → ((a && b) && c) ≡ true → ((d && b) && c) ≡ true
may_stand_too true b c d so h = rw (so refl) h
may_stand_too false b c d so h = absurd cc

same_row : (stage : ℕ) (k : RowKind) (fields : List (List ℕ)) → IsCallOrWaits k → body form.Day k (opened_at stage) fields ≡ body form.Day k behind_opening fields
same_row stage k fields (inl e) = rw e refl
same_row stage k fields (inr (inl e)) = rw e refl
same_row stage k fields (inr (inr (inl e))) = rw e refl
same_row stage k fields (inr (inr (inr call))) = call.row (opened_at stage) fields ∙ sym (call.row behind_opening fields)

row_alike : (stage : ℕ) → stage ≤ stage_of kind.Sched → (n : ℕ) (fields : List (List ℕ)) (r : Row) (next : Place) → row_of form.Day behind_opening n fields ≡ Ok (r, next) → row_of form.Day (opened_at stage) n fields ≡ Ok (r, next)
row_alike stage early n fields r next h =
    let it = known behind_opening n fields r next opening_among h in
    let k = it.took.kind in
    let may : may_stand form.Day (opened_at stage) k ≡ true =
    may_stand_too (nat_le (stage_of kind.Sched) (stage_of k)) _ _ (nat_le stage (stage_of k)) (λ late. le-leb stage (stage_of k) (omega (arith, early, leb-true (stage_of kind.Sched) (stage_of k) late))) it.stood.may in
    takes_it (opened_at stage) n fields r next (record {
      kind = k;
      is = it.took.is;
      stood = stands_so (opened_at stage) n k (record { taken = it.stood.taken; none = refl; may = may });
      row = same_row stage k fields it.which ∙ it.took.row;
      behind = it.took.behind;
    })

-- a front that leaves nothing waiting may be the end
ended_there : (records : List (List (List ℕ))) (place : Place) (n : ℕ) (rows : List Row) → front_from form.Day place n records ≡ Ok (rows, behind_opening) → rows_from form.Day place n records ≡ Ok rows
unfolding rows_from
ended_there records place n rows h =
    ap (rows_from form.Day place n) (sym (append-nil records)) ∙ rows_join form.Day place n records []
    ∙ ap (λ front. ended_front form.Day front (n + length records) []) h ∙ ap (λ (l : List Row). Ok l) (append-nil rows)

parts : (a b : List Row) (p q : Place) → ok RowFault {A = List Row × Place} (a, p) ≡ Ok (b, q) → (a ≡ b) × (p ≡ q)
parts a b p q h =
    let same = inside RowFault (a, p) (b, q) h in
    (ap (λ (it : List Row × Place). it.0) same, ap (λ (it : List Row × Place). it.1) same)

records_alike : (stage : ℕ) → stage ≤ stage_of kind.Sched → (records : List (List (List ℕ))) (n : ℕ) (rows : List Row) → front_from form.Day behind_opening n records ≡ Ok (rows, behind_opening) → rows_from form.Day (opened_at stage) n records ≡ Ok rows
unfolding rows_from
records_alike stage early [] n rows h = ap (ok RowFault) (parts [] rows behind_opening behind_opening h).0
records_alike stage early (fields ∷ records) n rows h =
    let taken = bound (row_of form.Day behind_opening (n + 1) fields) _ (rows, behind_opening) h in
    let front = bound (front_from form.Day taken.0.1 (n + 1) records) _ (rows, behind_opening) taken.2 in
    let same = parts (taken.0.0 ∷ front.0.0) rows front.0.1 behind_opening front.2 in
    let rest = ended_there records taken.0.1 (n + 1) front.0.0 (subst (λ p. front_from form.Day taken.0.1 (n + 1) records ≡ Ok (front.0.0, p)) same.1 front.1) in
    rw (row_alike stage early (n + 1) fields taken.0.0 taken.0.1 taken.1, rest) (ap (ok RowFault) same.0)

-- rows behind an opening are of calls
pub all_of_calls : (records : List (List (List ℕ))) (place : Place) (n : ℕ) (rows : List Row) (last : Place) → IsAmongCalls place → front_from form.Day place n records ≡ Ok (rows, last) → AllByRecursion (λ r. is_of_call r ≡ true) rows
all_of_calls [] place n rows last among h = subst (AllByRecursion (λ r. is_of_call r ≡ true)) (parts [] rows place last h).0 tt
all_of_calls (fields ∷ records) place n rows last among h =
    let taken = bound (row_of form.Day place (n + 1) fields) _ (rows, last) h in
    let front = bound (front_from form.Day taken.0.1 (n + 1) records) _ (rows, last) taken.2 in
    let one = rows_among place (n + 1) fields taken.0.0 taken.0.1 among taken.1 in
    subst (AllByRecursion (λ r. is_of_call r ≡ true)) (parts (taken.0.0 ∷ front.0.0) rows front.0.1 last front.2).0
    (one.0, all_of_calls records taken.0.1 (n + 1) front.0.0 front.0.1 one.1 front.1)

-- what an opening is read as
opening_read : (opening : List ℕ) (rows : List Row) → rows_of form.Day opening ≡ Ok rows → calls_of rows ≡ [] → LeavesOff start 0 (records_of opening) rows
opening_read opening rows reads none = opening_rows (records_of opening) start 0 rows start_quiet (no_events 1 [] rows none) reads

pub none_of_a_call : (text : List ℕ) (rows : List Row) → rows_of form.Day text ≡ Ok rows → calls_of rows ≡ [] → AllByRecursion (λ r. is_of_call r ≡ false) rows
none_of_a_call text rows reads none = (opening_read text rows reads none).other

-- no bytes are no opening
nothing_opens : (rows : List Row) → rows_of form.Day [] ≡ Ok rows → ⊥
unfolding rows_from csv_on_literals
nothing_opens rows h = cc

pub read_behind : (opening : List ℕ) (lines : List (List ℕ)) (rows read : List Row) → IsClosed (strip_bom opening) → rows_of form.Day opening ≡ Ok rows → calls_of rows ≡ []
    → AllByRecursion IsPlain lines → front_from form.Day behind_opening 0 (map (cut_at_commas []) lines) ≡ Ok (read, behind_opening) → rows_of form.Day (opening ++ text_of_lines lines) ≡ Ok (rows ++ read)
read_behind opening lines rows read closed reads none plain calls =
    let more = map (cut_at_commas []) lines in
    let n = length (records_of opening) in
    let it = opening_read opening rows reads none in
    let some : opening ≢ [] = λ e. nothing_opens rows (subst (λ text. rows_of form.Day text ≡ Ok rows) e reads) in
    let there = records_alike it.stage it.early more n read (anywhere 0 n more read calls) in
    rows_of_lines form.Day opening lines some closed plain ∙ ap (λ front. ended_front form.Day front n more) it.front
    ∙ ap (λ (r : Result (List Row) RowFault). r >>= λ rest. Ok (rows ++ rest)) there
