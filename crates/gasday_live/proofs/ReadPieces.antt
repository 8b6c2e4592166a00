-- Pieces that are read.
use Rattle.std.proofs.Common.{◌≡◌, ◌≤◌, ◌<◌, ◌+◌, ℕ, List, [], ◌∷◌, ◌++◌, length, take, drop, map, get_or, slice_get, Option, Some, inl, inr, sym, ap, subst, ◌∙◌, append-nil, append_assoc, arith}
use Rattle.std.proofs.lemmas.List.{length-append, take_all, take-append-drop, take-append-le, map_more, map-append}
use Rattle.std.proofs.lemmas.Grind.{flat_map-append}
use Rattle.std.proofs.Math.Seq.{take-add, take-append-add, take-append_seam}
use Rattle.std.proofs.KnownBytes.{Appends-kept, Appends-nil, Appends-trans}
use Rattle.std.specs.Io.KnownBytes.{Appends, Keeps as KeepsBytes}
use Rattle.sqlite.specs.State.{State, HasCleanDisk}
use Rattle.gd_journal_store.specs.Calls.{part}
use Rattle.gd_journal_store.specs.Pieces.{Piece, Keeps, IsSettled, LeavesNoMore}
use Rattle.gd_journal_store.specs.Seen.{seen}
use Rattle.gd_journal_store.specs.declared.reading.Piece.{Piece as InMemory}
use Rattle.gd_serving.specs.Runs.{rows_text}
use Rattle.gasday_live.specs.Texts.{WritesFront}

-- the first piece is the one that is read
pub first_is : (ps : List Piece) (v : List InMemory) (p : InMemory) → map seen v ≡ part 0 1 ps → slice_get v 0 ≡ Some p → ps ≡ seen p ∷ drop 1 ps
first_is [] [] p read got = cc
first_is [] (x ∷ v) p read got = cc
first_is (q ∷ qs) [] p read got = cc
first_is (q ∷ qs) (x ∷ v) p read got =
    let same : q ≡ seen x = cc in
    let it : x ≡ p = cc in
    ap (λ (y : Piece). y ∷ qs) (same ∙ ap seen it)

-- a piece of which nothing is told
pub untold : (ps : List Piece) (p : InMemory) → ps ≡ seen p ∷ drop 1 ps → p.told.items ≡ [] → ps ≡ (p.rows.items, []) ∷ drop 1 ps
untold ps p is none = is ∙ ap (λ (told : List ℕ). (p.rows.items, told) ∷ drop 1 ps) none

-- ---- writing

pub rows_more : (all : List InMemory) (i : ℕ) (p : InMemory) → i < length all → p ≡ get_or all i p → rows_text (map seen (take (i + 1) all)) ≡ rows_text (map seen (take i all)) ++ p.rows.items
rows_more all i p low is =
    ap rows_text (map_more seen all i p low ∙ ap (λ (x : InMemory). map seen (take i all) ++ seen x ∷ []) (sym is))
    ∙ flat_map-append (λ (q : Piece). q.0) (map seen (take i all)) (seen p ∷ []) ∙ ap (λ l. rows_text (map seen (take i all)) ++ l) (append-nil p.rows.items)

rows_both : (ps qs : List Piece) → rows_text (ps ++ qs) ≡ rows_text ps ++ rows_text qs
rows_both ps qs = flat_map-append (λ (q : Piece). q.0) ps qs

-- bytes at the front of these were written
abbrev pub HasFront : List ℕ → Option (List ℕ) → Option (List ℕ) → Type 0
HasFront text before out = (n : ℕ) × (n ≤ length text) × Appends before out (take n text)

-- the first bytes, and then some of those behind them
front_more : (text first next rest : List ℕ) (before mid out : Option (List ℕ)) → text ≡ first ++ (next ++ rest) → Appends before mid first → HasFront next mid out → HasFront text before out
front_more text first next rest before mid out is wrote some =
    let (n, low, now) = some in
    let bytes : take (length first + n) text ≡ first ++ take n next =
    ap (take (length first + n)) is ∙ take-append-add first (next ++ rest) n ∙ ap (λ t. first ++ t) (take-append-le n next rest low) in
    let whole = ap length is ∙ length-append first (next ++ rest) in
    let behind = length-append next rest in
    (length first + n, omega (arith, low, whole, behind), subst (Appends before out) (sym bytes) (Appends-trans _ _ _ _ _ wrote now))

pub whole_front : (text : List ℕ) (before out : Option (List ℕ)) → Appends before out text → HasFront text before out
whole_front text before out wrote = (length text, omega arith, subst (Appends before out) (sym (take_all (length text) text (omega arith))) wrote)

-- the pieces before one, and some bytes of that
pub stops_in_piece : (all : List InMemory) (i : ℕ) (p : InMemory) (before mid out : Option (List ℕ)) → i < length all → p ≡ get_or all i p → Appends before mid (rows_text (map seen (take i all))) → HasFront p.rows.items mid out
    → HasFront (rows_text (map seen all)) before out
stops_in_piece all i p before mid out low is =
    let first = rows_text (map seen (take i all)) in
    let rest = rows_text (map seen (drop (i + 1) all)) in
    let text : rows_text (map seen all) ≡ first ++ (p.rows.items ++ rest) =
    ap (λ (l : List InMemory). rows_text (map seen l)) (sym (take-append-drop (i + 1) all)) ∙ ap rows_text (map-append seen (take (i + 1) all) (drop (i + 1) all))
    ∙ rows_both (map seen (take (i + 1) all)) (map seen (drop (i + 1) all)) ∙ ap (λ t. t ++ rest) (rows_more all i p low is) ∙ append_assoc first p.rows.items rest in
    front_more (rows_text (map seen all)) first p.rows.items rest before mid out text

pub front_kept : (was : State) (before mid out : Option (List ℕ)) → WritesFront was before mid → KeepsBytes mid out → WritesFront was before out
front_kept was before mid out (inl none) same = inl (Appends-kept before mid out [] none same)
front_kept was before mid out (inr some) same = inr (some.0, some.1, (some.2.0, Appends-kept before mid out _ some.2.1 same))

-- What a loop over batches keeps: the rows of so many pieces are written, and the journal is as it was.
pub record IsWriting (first now : State) (before out : Option (List ℕ)) (at : ℕ) : Type 0 where
  pub keeps : HasCleanDisk now → (ps : List Piece) → IsSettled ps first → IsSettled ps now × Appends before out (rows_text (take at ps))
  pub leaves : HasCleanDisk now → LeavesNoMore first now
  pub clean : HasCleanDisk now → HasCleanDisk first

pub begins : (first : State) (before : Option (List ℕ)) → IsWriting first first before before 0
begins first before = record { keeps = λ up ps had. (had, Appends-nil before); leaves = λ up db may. may; clean = λ up. up }

module _ (first now : State) (before out : Option (List ℕ)) (at : ℕ) (here : IsWriting first now before out at) where
  pub batch_written : (now1 : State) (out1 : Option (List ℕ)) (size : ℕ) (batch : List Piece) → (HasCleanDisk now1 → HasCleanDisk now)
      → (HasCleanDisk now1 → (ps : List Piece) → IsSettled ps now → (batch ≡ part at size ps) × IsSettled ps now1) → (HasCleanDisk now1 → LeavesNoMore now now1) → Appends out out1 (rows_text batch) → IsWriting first now1 before out1 (at + size)
  batch_written now1 out1 size batch clean read less wrote = record {
    keeps = λ up ps had.
        let was = here.keeps (clean up) ps had in
        let got = read up ps was.0 in
        let rows : rows_text (take (at + size) ps) ≡ rows_text (take at ps) ++ rows_text batch =
        ap rows_text (take-add at size ps) ∙ flat_map-append (λ (q : Piece). q.0) (take at ps) (part at size ps) ∙ ap (λ (l : List Piece). rows_text (take at ps) ++ rows_text l) (sym got.0) in
        (got.1, subst (Appends before out1) (sym rows) (Appends-trans _ _ _ _ _ was.1 wrote));
    leaves = λ up db may. here.leaves (clean up) db (less up db may);
    clean = λ up. here.clean (clean up);
  }

  pub all_written : (count : ℕ) → count ≤ at → HasCleanDisk now → (ps : List Piece) → IsSettled ps first → count ≡ length ps → Appends before out (rows_text ps)
  all_written count end up ps had is =
      let short : length ps ≤ at = omega (arith, end, is) in
      subst (λ (l : List Piece). Appends before out (rows_text l)) (take_all at ps short) (here.keeps up ps had).1

  -- where no more can be read
  pub front_written : HasCleanDisk now → (ps : List Piece) → IsSettled ps first → (was : State) → Keeps ps was.now → WritesFront was before out
  front_written up ps had was keeps =
      let parts = ap rows_text (sym (take-append-drop at ps)) ∙ rows_both (take at ps) (drop at ps) in
      let n = length (rows_text (take at ps)) in
      let bytes : rows_text (take at ps) ≡ take n (rows_text ps) = sym (take-append_seam (rows_text (take at ps)) (rows_text (drop at ps))) ∙ ap (take n) (sym parts) in
      inr (ps, keeps, (n, subst (Appends before out) bytes (here.keeps up ps had).1))

  -- where no more of a batch can be written
  pub part_written : (now1 : State) (out1 : Option (List ℕ)) (size : ℕ) (batch : List Piece) → HasCleanDisk now → HasCleanDisk now1 → (ps : List Piece) → IsSettled ps first
      → ((qs : List Piece) → IsSettled qs now → (batch ≡ part at size qs) × IsSettled qs now1) → HasFront (rows_text batch) out out1 → (was : State) → Keeps ps was.now → WritesFront was before out1
  part_written now1 out1 size batch up up1 ps had read wrote was keeps =
      let mine = here.keeps up ps had in
      let rest = rows_text (drop size (drop at ps)) in
      let behind : rows_text (drop at ps) ≡ rows_text (part at size ps) ++ rest =
      ap rows_text (sym (take-append-drop size (drop at ps))) ∙ rows_both (take size (drop at ps)) (drop size (drop at ps)) in
      let text : rows_text ps ≡ rows_text (take at ps) ++ (rows_text batch ++ rest) =
      ap rows_text (sym (take-append-drop at ps)) ∙ rows_both (take at ps) (drop at ps) ∙ ap (λ t. rows_text (take at ps) ++ t) behind
      ∙ ap (λ (l : List Piece). rows_text (take at ps) ++ (rows_text l ++ rest)) (sym (read ps mine.0).0) in
      let some = front_more (rows_text ps) (rows_text (take at ps)) (rows_text batch) rest before out out1 text mine.1 wrote in
      inr (ps, keeps, (some.0, some.2))
