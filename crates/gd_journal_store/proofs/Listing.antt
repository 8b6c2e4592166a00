-- What the SELECTs of pieces show.
use Rattle.std.proofs.Common.{◌≡◌, ℕ, ◌+◌, pos, Bool, true, false, List, [], ◌∷◌, ◌++◌, filter, length, take, get_or, ◌<◌, map, if◌then◌else◌, refl, sym, ap, subst, subst₂, ◌∙◌, arith}
use Rattle.std.specs.List.{flat_map, list_all}
use Rattle.std.specs.List.Sorted.{IsPermutation}
use Rattle.std.proofs.lemmas.List.Sorted.{IsPermutation-map, IsPermutation-sym, IsPermutation-trans}
use Rattle.std.proofs.lemmas.List.{map_more, get_or-map, length-map}
use Rattle.sqlite.specs.declared.types.Value.TheVariants.{Null, Int}
use Rattle.sqlite.specs.Order.{Row}
use Rattle.sqlite.specs.Term.{Term, holds}
use Rattle.sqlite.specs.Query.{IsAnswer, output, Output}
use Rattle.sqlite.specs.Program.{overlay}
use Rattle.sqlite.specs.Listing.{understood}
use Rattle.sqlite.specs.Clock.{timed}
use Rattle.sqlite.specs.State.{State, Shown, ShowsRows, IsUnchanged}
use Rattle.sqlite.proofs.Callers.{IsPlain, reads_as}
use Rattle.sqlite_keyed.proofs.ListLemmas.{filter-map, IsPermutation-filter}
use Rattle.gd_journal_store.specs.Table.{journal}
use Rattle.gd_journal_store.specs.Pieces.{Piece, shown, numbered, numbered_at, HasPieces}
use Rattle.gd_journal_store.specs.Rows.{shape}
use Rattle.gd_journal_store.specs.Calls.{part}
use Rattle.gd_journal_store.proofs.Numbers.{numbered_more, length_numbered, at}
use Rattle.gd_journal_store.proofs.Ascending.{keyed, in_order, is_between, part_passes}
use Rattle.gd_journal_store.proofs.Texts.{ordered_query, all_text, all_query, all_is, part_text, part_query, part_is}

-- a query changes nothing
pub shown_same : (sql : List ℕ) (params : Row) (old new : State) (rows : List Row) → IsPlain (understood old.now.schema sql) → Shown sql params old new rows → IsUnchanged old new
unfolding Shown
shown_same sql params old new rows plain h =
    let none = (subst IsPlain h.1.is plain).0 in
    let it = subst (ShowsRows old new sql h.0 (timed params h.0.formats h.1.now) rows) none h.2 in it.3

staged_step : (params : Row) (p : Row → Bool) (r : Row) (rows : List Row) → flat_map (λ r. if p r then ((params ∷ r ∷ []) ∷ []) else []) rows ≡ map (λ r. params ∷ r ∷ []) (filter p rows)
    → (b : Bool) → p r ≡ b → flat_map (λ r. if p r then ((params ∷ r ∷ []) ∷ []) else []) (r ∷ rows) ≡ map (λ r. params ∷ r ∷ []) (filter p (r ∷ rows))
staged_step params p r rows h true e = rw e (ap (λ xs. (params ∷ r ∷ []) ∷ xs) h)
staged_step params p r rows h false e = rw e h

-- the rows that pass WHERE, each with the parameters
staged_of : (params : Row) (p : Row → Bool) (rows : List Row) → flat_map (λ r. if p r then ((params ∷ r ∷ []) ∷ []) else []) rows ≡ map (λ r. params ∷ r ∷ []) (filter p rows)
staged_of params p [] = refl
staged_of params p (r ∷ rows) = staged_step params p r rows (staged_of params p rows) (p r) refl

all_pass : (rows : List Row) → flat_map (λ r. if list_all (holds ([] ∷ r ∷ [])) all_query.filter then (([] ∷ r ∷ []) ∷ []) else []) rows ≡ map (λ r. [] ∷ r ∷ []) rows
all_pass [] = refl
all_pass (r ∷ rows) = ap (λ xs. ([] ∷ r ∷ []) ∷ xs) (all_pass rows)

all_fused : (rows : List Row) → map (λ (o : Output). o.1) (map (output all_query) (map (λ r. [] ∷ r ∷ []) rows)) ≡ map shown rows
all_fused [] = refl
all_fused (r ∷ rows) = ap (λ xs. shown r ∷ xs) (all_fused rows)

fused : (terms : List Term) (params : Row) (rows : List Row) → map (output (ordered_query terms)) (map (λ r. params ∷ r ∷ []) rows) ≡ map keyed (map shown rows)
fused terms params [] = refl
fused terms params (r ∷ rows) = ap (λ xs. keyed (shown r) ∷ xs) (fused terms params rows)

shaped : (rows : List Row) → map shape (map shown rows) ≡ map shown rows
shaped [] = refl
shaped (r ∷ rows) = ap (λ xs. shown r ∷ xs) (shaped rows)

shaped_pieces : (n : ℕ) (ps : List Piece) → map shape (numbered n ps) ≡ numbered n ps
shaped_pieces n [] = refl
shaped_pieces n (p ∷ ps) = ap (λ xs. numbered_at n p ∷ xs) (shaped_pieces (n + 1) ps)

-- the SELECT of all shows each row
pub shows_all : (old new : State) (rows : List Row) → old.now.schema ≡ journal → Shown all_text [] old new rows → IsPermutation (map shown (old.now.trees 0)) (map shape rows) × IsUnchanged old new
shows_all old new rows has h =
    let got = (reads_as all_text [] old new journal has _ all_is.0 all_is.2 all_is.1 rows h).answer in
    let a : IsAnswer all_query (overlay old.now.trees []) [] rows = got Null in
    let all = old.now.trees 0 in
    let staged : a.staged ≡ map (λ r. [] ∷ r ∷ []) all = a.grouped ∙ all_pass all in
    let kept : a.kept ≡ map (output all_query) (map (λ r. [] ∷ r ∷ []) all) = a.distinct ∙ ap (map (output all_query)) staged in
    let texts = ap (map (λ (o : Output). o.1)) kept ∙ all_fused all in
    let same = IsPermutation-map (λ (o : Output). o.1) a.kept a.ordered a.same in
    let plainly : IsPermutation (map shown all) rows = subst (IsPermutation (map shown all)) (sym a.shown) (subst (λ xs. IsPermutation xs (map (λ (o : Output). o.1) a.ordered)) texts same) in (
      subst (λ xs. IsPermutation xs (map shape rows)) (shaped all) (IsPermutation-map shape (map shown all) rows plainly),
      shown_same all_text [] old new rows (subst (λ s. IsPlain (understood s all_text)) (sym has) all_is.2) h,
    )

-- and in their order
pub shows_each : (old new : State) (rows : List Row) → old.now.schema ≡ journal → Shown all_text [] old new rows → (ps : List Piece) → HasPieces ps old.now.trees → map shape rows ≡ numbered 1 ps
shows_each old new rows has h ps pieces =
    let got = (reads_as all_text [] old new journal has _ all_is.0 all_is.2 all_is.1 rows h).answer in
    let a : IsAnswer all_query (overlay old.now.trees []) [] rows = got Null in
    let all = old.now.trees 0 in
    let kept : a.kept ≡ map keyed (map shown all) = a.distinct ∙ ap (map (output all_query)) (a.grouped ∙ all_pass all) ∙ fused [] [] all in
    let back = IsPermutation-map keyed (numbered 1 ps) (map shown all) (IsPermutation-sym _ _ pieces) in
    let found = IsPermutation-trans (map keyed (numbered 1 ps)) a.kept a.ordered (subst (IsPermutation (map keyed (numbered 1 ps))) (sym kept) back) a.same in
    ap (map shape) (a.shown ∙ in_order [] 1 ps a.ordered found a.sorted) ∙ shaped_pieces 1 ps

-- the SELECT of a part shows these pieces, in their order
pub shows_part : (old new : State) (after count : ℕ) (rows : List Row) → old.now.schema ≡ journal → Shown part_text (Int (pos after) ∷ Int (pos (after + count)) ∷ []) old new rows
    → ((ps : List Piece) → HasPieces ps old.now.trees → map shape rows ≡ numbered (after + 1) (part after count ps)) × IsUnchanged old new
shows_part old new after count rows has h =
    let params = Int (pos after) ∷ Int (pos (after + count)) ∷ [] in
    let got = (reads_as part_text params old new journal has _ part_is.0 part_is.2 part_is.1 rows h).answer in
    let a : IsAnswer part_query (overlay old.now.trees []) params rows = got Null in
    let all = old.now.trees 0 in
    let passed = filter (is_between params) all in
    let kept : a.kept ≡ map keyed (map shown passed) = a.distinct ∙ ap (map (output part_query)) (a.grouped ∙ staged_of params (is_between params) all) ∙ fused part_query.filter params passed in (
      λ ps pieces.
          let qs = part after count ps in
          let tested : IsPermutation (filter (is_between params) (numbered 1 ps)) (filter (is_between params) (map shown all)) = IsPermutation-filter (is_between params) _ _ (IsPermutation-sym _ _ pieces) in
          let back : IsPermutation (numbered (after + 1) qs) (map shown passed) = subst₂ IsPermutation (part_passes after (after + count) count ps refl) (filter-map (is_between params) shown all) tested in
          let keys = IsPermutation-map keyed (numbered (after + 1) qs) (map shown passed) back in
          let found = IsPermutation-trans (map keyed (numbered (after + 1) qs)) a.kept a.ordered (subst (IsPermutation (map keyed (numbered (after + 1) qs))) (sym kept) keys) a.same in
          ap (map shape) (a.shown ∙ in_order part_query.filter (after + 1) qs a.ordered found a.sorted) ∙ shaped_pieces (after + 1) qs,
      shown_same part_text params old new rows (subst (λ s. IsPlain (understood s part_text)) (sym has) part_is.2) h,
    )

-- the rows so far, and one more
pub one_read : (rows : List Row) (i : ℕ) (row : Row) (n : ℕ) (ps : List Piece) (p : Piece) → i < length rows → row ≡ get_or rows i row → map shape (take i rows) ≡ numbered n ps
    → shape row ≡ numbered_at (length ps + n) p → map shape (take (i + 1) rows) ≡ numbered n (ps ++ p ∷ [])
one_read rows i row n ps p low is had one =
    map_more shape rows i row low ∙ ap (λ x. map shape (take i rows) ++ shape x ∷ []) (sym is) ∙ ap (λ l. l ++ shape row ∷ []) had ∙ ap (λ r. numbered n ps ++ r ∷ []) one ∙ sym (numbered_more n ps p)

-- one of the rows that are pieces
pub piece_at : (rows : List Row) (i : ℕ) (row : Row) (n : ℕ) (ps : List Piece) → i < length rows → row ≡ get_or rows i row → map shape rows ≡ numbered n ps → shape row ≡ numbered_at (i + n) (get_or ps i ([], []))
piece_at rows i row n ps low is all =
    let short : i < length ps = omega (arith, low, length-map rows shape, ap length all, length_numbered n ps) in
    ap shape is ∙ sym (get_or-map shape rows i row (shape row) low) ∙ ap (λ (l : List Row). get_or l i (shape row)) all ∙ at n ps i (shape row) short
