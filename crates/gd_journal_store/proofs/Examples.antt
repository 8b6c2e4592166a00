-- What a journal keeps, at worked examples: an opening, one call behind it, and what was told of the call.
use Rattle.std.proofs.Common.{◌≡◌, ◌⊎◌, inl, inr, ℕ, ◌+◌, pos, Bool, true, false, List, [], ◌∷◌, length, map, None, codes, refl, sym, ap, subst, ◌∙◌, arith}
use Rattle.std.specs.Bool.{⊤}
use Rattle.std.proofs.lemmas.List.Sorted.{IsPermutation-refl, IsPermutation-to_front, length_permutation}
use Rattle.sqlite.specs.declared.types.Value.TheVariants.{Null, Int, Blob}
use Rattle.sqlite.specs.Order.{Row}
use Rattle.sqlite.specs.Tree.{Trees}
use Rattle.sqlite.specs.Effect.{Database}
use Rattle.sqlite.specs.State.{State}
use Rattle.gd_journal_store.specs.Table.{journal}
use Rattle.gd_journal_store.specs.Pieces.{Piece, shown, numbered, HasPieces, Keeps, IsSettled, LeavesOr}
use Rattle.gd_journal_store.specs.Calls.{KeepsFewer, KeepsNone, part}
use Rattle.gd_journal_store.proofs.Numbers.{length_numbered, all_shown, number_same, same_pieces}

abbrev opening : Piece
opening = (codes "day,2026-03-08,America/Chicago,DEMO,,,,", [])

abbrev call : Piece
call = (codes "nominate,1772910900,SHIP,INT,P,R1,D1,70", codes "accepted,1,1,1,,,,")

-- a row as the table has it: the rowid, no value of its own for the number, the rows, and what was told
abbrev stored : ℕ → Piece → Row
stored n p = Int (pos n) ∷ Null ∷ Blob p.0 ∷ Blob p.1 ∷ []

-- Trees with these rows. What other trees have doesn't matter.
abbrev tree : List Row → Trees
tree rows = λ _. rows

abbrev both : List Piece
both = opening ∷ call ∷ []

abbrev both_rows : List Row
both_rows = stored 1 opening ∷ stored 2 call ∷ []

worked_numbers : numbered 1 both ≡ (Int (pos 1) ∷ Blob opening.0 ∷ Blob [] ∷ []) ∷ (Int (pos 2) ∷ Blob call.0 ∷ Blob call.1 ∷ []) ∷ []
worked_numbers = refl

worked_pieces : HasPieces both (tree both_rows)
worked_pieces = IsPermutation-refl (numbered 1 both)

-- in whatever order the tree has them
worked_order : HasPieces both (tree (stored 2 call ∷ stored 1 opening ∷ []))
worked_order = IsPermutation-to_front (shown (stored 2 call) ∷ []) (shown (stored 1 opening))

-- rows of number 1 and 3 are no pieces
worked_gap : (ps : List Piece) → ¬ HasPieces ps (tree (stored 1 opening ∷ stored 3 call ∷ []))
worked_gap ps h =
    let rows = stored 1 opening ∷ stored 3 call ∷ [] in
    let one = all_shown ps rows h 1 [] (omega arith) in
    let two : length ps ≡ 2 = sym (length_numbered 1 ps) ∙ length_permutation (map shown rows) (numbered 1 ps) h in
    omega (arith, number_same 3 (one.place + 1) call _ one.is, one.low, two)

-- what was told doesn't stand for the rows
worked_exchange : ¬ HasPieces (([], opening.0) ∷ []) (tree (stored 1 opening ∷ []))
worked_exchange h = let same = same_pieces (map shown (stored 1 opening ∷ [])) (opening ∷ []) (([], opening.0) ∷ []) (IsPermutation-refl _) h in cc

abbrev db_of : List Row → Database
db_of rows = record { schema = journal; trees = tree rows }

worked_keeps : Keeps both (db_of both_rows)
worked_keeps = record { schema = refl; pieces = worked_pieces }

-- an open connection that sees and has committed these rows
abbrev state_of : List Row → Bool → (Trees → Type 0) → State
state_of rows in_transaction may_leave = record {
  now = db_of rows;
  committed = db_of rows;
  in_transaction = in_transaction;
  marks = [];
  is_open = true;
  is_clean = true;
  faults = 0;
  blamed = None;
  changes = 0;
  last_rowid = pos 0;
  step_limit = None;
  may_leave = may_leave;
  IsShielded = ⊤;
}

abbrev alone : List Row → Trees → Type 0
alone rows db = db ≡ tree rows

worked_settled : IsSettled both (state_of both_rows false (alone both_rows))
worked_settled = record { is_open = refl; mode = refl; now = worked_keeps; committed = refl; durable = λ db e. subst (HasPieces both) (sym e) worked_pieces }

-- in a transaction nothing is settled
worked_transaction : (ps : List Piece) → ¬ IsSettled ps (state_of both_rows true (alone both_rows))
worked_transaction ps h = let e = h.mode in cc

one_for_two : ¬ HasPieces both (tree (stored 1 opening ∷ []))
one_for_two h = let e = length_permutation (map shown (stored 1 opening ∷ [])) (numbered 1 both) h in cc

-- nor where a crash may still lose the call
worked_unsynced : ¬ IsSettled both (state_of both_rows false (λ db. alone both_rows db ⊎ alone (stored 1 opening ∷ []) db))
worked_unsynced h = one_for_two (h.durable (tree (stored 1 opening ∷ [])) (inr refl))

abbrev before : State
before = state_of (stored 1 opening ∷ []) false (alone (stored 1 opening ∷ []))

-- while the call is appended a crash leaves the opening alone, or both
worked_crash : LeavesOr both before (state_of (stored 1 opening ∷ []) false (λ db. alone (stored 1 opening ∷ []) db ⊎ alone both_rows db))
worked_crash db (inl e) = inl e
worked_crash db (inr e) = inr (subst (HasPieces both) (sym e) worked_pieces)

-- and never nothing
worked_loss : ¬ LeavesOr both before (state_of (stored 1 opening ∷ []) false (alone []))
worked_loss h = elim (h (tree []) refl) [
  | inl e ↦ let none = ap (λ (t : Trees). length (t 0)) e in cc
  | inr p ↦ let none = length_permutation [] (numbered 1 both) p in cc
]

worked_part : part 1 2 (opening ∷ call ∷ opening ∷ call ∷ []) ≡ call ∷ opening ∷ []
worked_part = refl

-- a file with a gap is told damaged, and one that keeps both is not
worked_damaged : KeepsNone (db_of (stored 1 opening ∷ stored 3 call ∷ []))
worked_damaged ps few keeps = worked_gap ps keeps.pieces

worked_sound : ¬ KeepsNone (db_of both_rows)
worked_sound h = h both (omega arith) worked_keeps

-- nor where so many are asked for as there are
worked_fewer : ¬ KeepsFewer 2 (db_of both_rows)
worked_fewer h = omega (arith, h both (omega arith) worked_keeps)
