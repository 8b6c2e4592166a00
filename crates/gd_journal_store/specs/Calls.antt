-- What the calls promise.
use Rattle.std.specs.Prelude.{◌≡◌, ◌≢◌, ◌⊎◌, ◌<◌, ◌-◌, ◌^◌, ℕ, List, [], length, take, drop, Result, Ok, Err, IsTrue}
use Rattle.sqlite.specs.Effect.{Database}
use Rattle.sqlite.specs.State.{State}
use Rattle.gd_journal_store.specs.Table.{no_schema, journal}
use Rattle.gd_journal_store.specs.Pieces.{Piece, Keeps, IsSettled}
use Rattle.gd_journal_store.specs.declared.fault.StoreFault.{StoreFault}
use Rattle.gd_journal_store.specs.declared.fault.StoreFault.TheVariants.{NotAJournal, Damaged, Store}

-- so few pieces that a number of 32 bits counts them, and one more
abbrev pub IsCountable : List Piece → Type 0
IsCountable ps = length ps < 2 ^ 32 - 1

-- the database keeps no pieces that can be counted
abbrev pub KeepsNone : Database → Type 0
KeepsNone db = (ps : List Piece) → IsCountable ps → ¬ Keeps ps db

-- if it keeps pieces that can be counted, they are fewer than that
abbrev pub KeepsFewer : ℕ → Database → Type 0
KeepsFewer n db = (ps : List Piece) → IsCountable ps → Keeps ps db → length ps < n

-- the fault of reading pieces: that they are damaged only where this is so
abbrev pub IsOfRows : Type 0 → StoreFault → Type 0
IsOfRows Damage NotAJournal = ⊥
IsOfRows Damage Damaged = Damage
IsOfRows Damage (Store e) = Unit {0}

module _ (old new : State) where
  -- unless the disk has shut the connection, it sees and has committed what it did
  abbrev pub IsSame : Type 0
  IsSame = IsTrue new.is_open → (new.now ≡ old.now) × (new.committed ≡ old.committed)

  -- a refusal changes nothing, and tells only what is so: that the tables are another file's, or this damage
  abbrev pub Stops : Type 0 → StoreFault → Type 0
  Stops Damage NotAJournal = (old.now.schema ≢ journal) × IsSame
  Stops Damage Damaged = Damage × IsSame
  Stops Damage (Store e) = IsSame

  -- a journal without pieces is made where there was no table, and a journal is left as it was
  abbrev pub Makes : Result (Unit {0}) StoreFault → Type 0
  Makes (Ok _) = ((old.now.schema ≡ no_schema) × IsSettled [] new) ⊎ ((old.now.schema ≡ journal) × (new.now ≡ old.now))
  Makes (Err NotAJournal) = (old.now.schema ≢ no_schema) × (old.now.schema ≢ journal) × IsSame
  Makes (Err Damaged) = ⊥
  Makes (Err (Store e)) = IsSame

  -- the journal is settled on so many pieces, and none has changed
  abbrev pub Counts : ℕ → Type 0
  Counts n = (ps : List Piece) × (n ≡ length ps) × Keeps ps old.now × IsSettled ps new

-- so many pieces behind the first ones
abbrev pub part : ℕ → ℕ → List Piece → List Piece
part after count ps = take count (drop after ps)
