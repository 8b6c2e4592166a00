-- What a journal keeps: pieces, each some bytes of rows and what was told of them.
use Rattle.std.specs.Prelude.{◌≡◌, ◌⊎◌, ℕ, ◌+◌, pos, false, IsTrue, List, [], ◌∷◌, map, IsPermutation}
use Rattle.sqlite.specs.declared.types.Value.TheVariants.{Int, Blob}
use Rattle.sqlite.specs.Tree.{Trees}
use Rattle.sqlite.specs.Order.{Row, column}
use Rattle.sqlite.specs.Effect.{Database}
use Rattle.sqlite.specs.State.{State, IsUnchanged, IsRolledBack}
use Rattle.gd_journal_store.specs.Table.{journal}

-- the bytes of some rows, and of what was told of them
abbrev pub Piece : Type 0
Piece = List ℕ × List ℕ

-- the number, the rows and what was told of a stored row, whose rowid is kept in column 0
abbrev pub shown : Row → Row
shown r = column r 0 ∷ column r 2 ∷ column r 3 ∷ []

-- the row that a piece of this number is
abbrev pub numbered_at : ℕ → Piece → Row
numbered_at n p = Int (pos n) ∷ Blob p.0 ∷ Blob p.1 ∷ []

-- pieces with their numbers, from this one on
abbrev pub numbered : ℕ → List Piece → List Row
numbered n [] = []
numbered n (p ∷ ps) = numbered_at n p ∷ numbered (n + 1) ps

-- The rows of the table are exactly these pieces, numbered from 1. In which order the tree has them doesn't matter.
abbrev pub HasPieces : List Piece → Trees → Type 0
HasPieces ps trees = IsPermutation (map shown (trees 0)) (numbered 1 ps)

-- the database is a journal that keeps exactly these pieces
pub record Keeps (ps : List Piece) (db : Database) : Type 0 where
  pub schema : db.schema ≡ journal
  pub pieces : HasPieces ps db.trees

-- A journal is settled on these pieces: it is open, in no transaction, sees them, has committed them, and a crash now leaves
-- them and nothing else.
pub record IsSettled (ps : List Piece) (s : State) : Type 0 where
  pub is_open : IsTrue s.is_open
  pub mode : s.in_transaction ≡ false
  pub now : Keeps ps s.now
  pub committed : s.committed ≡ s.now
  pub durable : (db : Trees) → s.may_leave db → HasPieces ps db

-- a statement that was refused left the database as it was, or undid the transaction
abbrev pub IsRefused : State → State → Type 0
IsRefused old new = IsUnchanged old new ⊎ IsRolledBack old new

-- a crash during the call leaves what it could leave before, or these pieces
abbrev pub LeavesOr : List Piece → State → State → Type 0
LeavesOr ps old new = (db : Trees) → new.may_leave db → old.may_leave db ⊎ HasPieces ps db

-- a crash during the call leaves nothing that it could not leave before
abbrev pub LeavesNoMore : State → State → Type 0
LeavesNoMore old new = (db : Trees) → new.may_leave db → old.may_leave db
