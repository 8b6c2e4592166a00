-- What an archive keeps.
use Rattle.std.specs.Prelude.{◌≡◌, ◌≢◌, ℕ, pos, Bool, ◌&&◌, ◌⊎◌, ◌==◌, ◌^◌, if◌then◌else◌, false, IsTrue, ◌<◌, length, slice_index_or, List, [], ◌∷◌, map, filter, IsPermutation}
use Rattle.std.specs.declared.cmp.Ordering.{Ordering}
use Rattle.std.specs.Ordering.{is_lt, on, then_cmp}
use Rattle.sqlite.specs.Collation.TheVariants.{Binary}
use Rattle.sqlite.specs.declared.types.Value.TheVariants.{Int, Text, Blob}
use Rattle.sqlite.specs.Order.{Row, column, value_cmp}
use Rattle.sqlite.specs.Effect.{Database}
use Rattle.sqlite.specs.State.{State, store_error}
use Rattle.sqlite.specs.declared.error.Error.{Error}
use Rattle.sqlite.specs.declared.error.Error.TheVariants.{SqliteFailure}
use Rattle.sqlite.specs.declared.error.ErrorCode.TheVariants.{OperationInterrupted, OutOfMemory}
use Rattle.sqlite.specs.Schema.{Schema}
use Rattle.sqlite_schema.specs.Rules.{equal}
use Rattle.gd_archive_store.specs.Tables.{version_1, version_2, HasArchive}

-- the version's column
abbrev pub versions_of : Database → List Row
versions_of db = map (λ r. column r 2 ∷ []) (db.trees 0)

-- the version's table has one row, of this version
abbrev pub HasVersion : Database → ℕ → Type 0
HasVersion db n = versions_of db ≡ (Int (pos n) ∷ []) ∷ []

-- the tables of version 1 or 2
abbrev pub tables_of : ℕ → Schema
tables_of n = if n == 1 then version_1 else version_2

-- the database is an archive of version 1 or 2
pub record IsArchive (db : Database) (n : ℕ) : Type 0 where
  pub schema : db.schema ≡ tables_of n
  pub version : HasVersion db n

-- the version's table stands first, and says this version
pub record SaysVersion (db : Database) (n : ℕ) : Type 0 where
  pub table : HasArchive db.schema
  pub version : HasVersion db n

-- the book, the cycle, the round, the body and the rule of a stored row of version 2
abbrev pub shown : Row → Row
shown r = column r 1 ∷ column r 2 ∷ column r 3 ∷ column r 4 ∷ column r 5 ∷ []

-- the postings of version 2
abbrev pub rows_of : Database → List Row
rows_of db = map shown (db.trees 3)

-- by book and then by cycle, in SQL's order of values: of texts by their bytes
abbrev pub posting_cmp : Row → Row → Ordering
posting_cmp = then_cmp (on (λ r. column r 0) value_cmp) (on (λ r. column r 1) value_cmp)

-- no row is before an earlier one
abbrev pub IsAscending : List Row → Type 0
IsAscending rows = (i j : ℕ) → i < j → j < length rows → is_lt (posting_cmp (slice_index_or rows j []) (slice_index_or rows i [])) ≡ false

-- the book, the cycle, the round and the body of a stored row of version 1
abbrev pub shown_old : Row → Row
shown_old r = column r 1 ∷ column r 2 ∷ column r 3 ∷ column r 4 ∷ []

-- the postings of version 1
abbrev pub old_rows_of : Database → List Row
old_rows_of db = map shown_old (db.trees 1)

-- the row is of this book and cycle, by SQL's =
abbrev pub is_of : List ℕ → ℕ → Row → Bool
is_of book cycle row = equal Binary (column row 1) (Text book) && equal Binary (column row 2) (Int (pos cycle))

-- the round, the body and the rule of a stored row
abbrev pub kept_in : Row → Row
kept_in row = column row 3 ∷ column row 4 ∷ column row 5 ∷ []

-- what is kept of a book and cycle
abbrev pub kept_at : Database → List ℕ → ℕ → List Row
kept_at db book cycle = map kept_in (filter (is_of book cycle) (db.trees 3))

-- the round, the body and the rule of a posting
abbrev pub entry : ℕ → List ℕ → ℕ → Row
entry round body rule = Int (pos round) ∷ Blob body ∷ Int (pos rule) ∷ []

-- one posting was entered, and nothing else changed
pub record IsEntered (old new : Database) (book : List ℕ) (cycle : ℕ) (kept : Row) : Type 0 where
  pub schema : new.schema ≡ old.schema
  pub here : kept_at old book cycle ≡ [] → kept_at new book cycle ≡ kept ∷ []
  pub elsewhere : (b : List ℕ) (c : ℕ) → ((book ≡ b) × (cycle ≡ c) → ⊥) → kept_at new b c ≡ kept_at old b c
  pub rows : IsPermutation ((Text book ∷ Int (pos cycle) ∷ kept) ∷ rows_of old) (rows_of new)
  pub version : new.trees 0 ≡ old.trees 0
  pub before : new.trees 1 ≡ old.trees 1

-- no transaction is open, so all is committed
pub record IsSettled (s : State) : Type 0 where
  pub mode : s.in_transaction ≡ false
  pub now : s.now ≡ s.committed

-- unless the disk has shut the connection, the database is as it was
abbrev pub IsSame : State → State → Type 0
IsSame old new = IsTrue new.is_open → new.now ≡ old.now

-- a failure of the store, want of memory or the limit on steps cut a query off
abbrev pub IsCutOff : Error → Type 0
IsCutOff e = ((cause : _) × (e ≡ store_error cause)) ⊎ ((e ≡ SqliteFailure OutOfMemory) ⊎ (e ≡ SqliteFailure OperationInterrupted))

-- the caller's own transaction, or what cuts a query off, kept a file from being read
abbrev pub IsHindered : State → Error → Type 0
IsHindered s e = IsTrue s.in_transaction ⊎ IsCutOff e

-- the file is of version 1, or an archive of version 2
abbrev pub IsKnown : Database → Type 0
IsKnown db = SaysVersion db 1 ⊎ IsArchive db 2

-- the file says a version that a u32 holds and that is not 1
abbrev pub SaysOther : Database → Type 0
SaysOther db = (n : ℕ) × (n < 2 ^ 32) × (n ≢ 1) × SaysVersion db n
