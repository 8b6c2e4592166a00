-- The rows of an answer that are pieces.
use Rattle.std.specs.Prelude.{◌≡◌, ◌<◌, ℕ, ◌+◌, List, [], ◌∷◌, length, slice_index_or}
use Rattle.sqlite.specs.Order.{Row, column}
use Rattle.gd_journal_store.specs.Pieces.{Piece, numbered_at}

-- the first three values of a row that is read
abbrev pub shape : Row → Row
shape r = column r 0 ∷ column r 1 ∷ column r 2 ∷ []

-- the row is one of these pieces, under its number
pub record IsOneOf (ps : List Piece) (row : Row) : Type 0 where
  pub place : ℕ
  pub low : place < length ps
  pub is : row ≡ numbered_at (place + 1) (slice_index_or ps place ([], []))
