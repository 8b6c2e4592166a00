-- What is read of a journal that is settled.
use Rattle.std.proofs.Common.{◌≡◌, ◌≢◌, inl, inr, IsTrue, ℕ, ◌+◌, ◌<◌, List, length, map, drop, Ok, Err, Result, IfErr, OnErr, false, sym, ap, subst, ◌∙◌, arith, length-drop, length-take-le}
use Rattle.std.proofs.lemmas.Bool.{cases_lt}
use Rattle.std.proofs.lemmas.List.{length-map, take_all}
use Rattle.sqlite.specs.Order.{Row}
use Rattle.sqlite.specs.State.{State, IsUnchanged}
use Rattle.gd_journal_store.specs.Table.{journal}
use Rattle.gd_journal_store.specs.Pieces.{Piece, numbered, HasPieces, Keeps, IsSettled, IsRefused}
use Rattle.gd_journal_store.specs.Rows.{shape}
use Rattle.gd_journal_store.specs.Calls.{IsSame, IsOfRows, Stops, Counts, part}
use Rattle.gd_journal_store.specs.declared.fault.StoreFault.{StoreFault}
use Rattle.gd_journal_store.specs.declared.fault.StoreFault.TheVariants.{NotAJournal, Damaged, Store}
use Rattle.gd_journal_store.proofs.Numbers.{length_numbered}
use Rattle.gd_journal_store.proofs.Committing.{LeavesCommitted, settled_on}

pub same_of : (old new : State) → (IsTrue old.is_open → old.now ≡ old.committed) → IsRefused old new → IsSame old new
same_of old new settled (inl same) up = (same.0.now_is, same.0.committed_is)
same_of old new settled (inr back) up = let is = back.undone up in (is.0 ∙ sym (settled (back.was_open up)), is.1)

stops_of : (Damage : Type 0) (old new : State) (fault : StoreFault) → IsOfRows Damage fault → IsSame old new → Stops old new Damage fault
stops_of Damage old new NotAJournal rows same = absurd rows
stops_of Damage old new Damaged rows same = (rows, same)
stops_of Damage old new (Store e) rows same = same

pub stops : {X : Type 0} (Damage : Type 0) (old new : State) (r : Result X StoreFault) → (IsTrue old.is_open → old.now ≡ old.committed) → IfErr r (IsOfRows Damage) → OnErr r (IsRefused old new) → IfErr r (Stops old new Damage)
stops Damage old new (Ok x) settled rows refused = tt
stops Damage old new (Err fault) settled rows refused = stops_of Damage old new fault rows (same_of old new settled refused)

pub still : (ps : List Piece) (old new : State) → LeavesCommitted new → IsUnchanged old new → IsSettled ps old → IsSettled ps new
still ps old new law same had =
    settled_on ps new law same.0.is_open (same.0.mode ∙ had.mode) (same.0.committed_is ∙ had.committed ∙ sym same.0.now_is) (subst (Keeps ps) (sym same.0.now_is) had.now)

pub counts : (old new : State) (n : ℕ) → LeavesCommitted new → old.now.schema ≡ journal → old.in_transaction ≡ false → (IsTrue old.is_open → old.now ≡ old.committed)
    → (ps : List Piece) × (n ≡ length ps) × HasPieces ps old.now.trees × IsUnchanged old new → Counts old new n
counts old new n law has mode settled found =
    let same = found.3 in
    let keeps : Keeps found.0 old.now = record { schema = has; pieces = found.2 } in (
      found.0,
      found.1,
      keeps,
      settled_on found.0 new law same.0.is_open (same.0.mode ∙ mode) (same.0.committed_is ∙ sym (settled same.0.was_open) ∙ sym same.0.now_is) (subst (Keeps found.0) (sym same.0.now_is) keeps),
    )

-- rows that are a part of the pieces, and fewer than were asked for, end with the last piece
pub too_few : (ps : List Piece) (after count : ℕ) (rows : List Row) → map shape rows ≡ numbered (after + 1) (part after count ps) → length rows ≢ count → length ps < after + count
too_few ps after count rows is short = elim (cases_lt (length ps) (after + count)) [
  | inl low ↦ low
  | inr high ↦
      let whole = length-take-le count (drop after ps) (omega (arith, high, length-drop after ps)) in
      absurd (short (sym (length-map rows shape) ∙ ap length is ∙ length_numbered (after + 1) (part after count ps) ∙ whole))
]

pub all_part : (ps : List Piece) (n : ℕ) → n ≡ length ps → part 0 n ps ≡ ps
all_part ps n is = take_all n ps (omega (arith, is))
