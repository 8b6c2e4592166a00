-- What lines yield, by whatever takes them.
use Rattle.std.specs.Prelude.{◌≡◌, ℕ, ◌+◌, ◌==◌, Bool, not, List, [], ◌∷◌, ◌++◌, length, flat_map, count_by}
use Rattle.gd_journal_store.specs.Pieces.{Piece}

-- the rows that are kept, the replies that are kept with them, and all that is told
pub record Yield : Type 0 where
  pub rows : List ℕ
  pub replies : List ℕ
  pub told : List ℕ

abbrev pub rows_of : List Yield → List ℕ
rows_of ys = flat_map (λ (y : Yield). y.rows) ys

abbrev pub replies_of : List Yield → List ℕ
replies_of ys = flat_map (λ (y : Yield). y.replies) ys

abbrev pub told_of : List Yield → List ℕ
told_of ys = flat_map (λ (y : Yield). y.told) ys

-- all of them together
abbrev pub total : List Yield → Yield
total ys = record { rows = rows_of ys; replies = replies_of ys; told = told_of ys }

-- what is kept of it
abbrev pub kept_of : Yield → Piece
kept_of y = (y.rows, y.replies)

-- and of all of them
abbrev pub piece_of : List Yield → Piece
piece_of ys = kept_of (total ys)

-- whether nothing is to be kept
abbrev pub is_nothing : Piece → Bool
is_nothing p = length p.0 + length p.1 == 0

-- how many of them keep anything
abbrev pub kept_count : List Yield → ℕ
kept_count ys = count_by (λ (y : Yield). not (is_nothing (kept_of y))) ys

-- this is added at the end of each
pub record Adds (old new y : Yield) : Type 0 where
  pub rows : new.rows ≡ old.rows ++ y.rows
  pub replies : new.replies ≡ old.replies ++ y.replies
  pub told : new.told ≡ old.told ++ y.told

-- From this stand the lines lead to that one, and yield these, one a line. What one line gives is up to whoever takes it.
abbrev pub LinesGive : {S : Type 0} → (S → List ℕ → S → Yield → Type 0) → S → List (List ℕ) → S → List Yield → Type 0
LinesGive gives s [] t [] = t ≡ s
LinesGive gives s [] t (y ∷ ys) = ⊥
LinesGive gives s (line ∷ lines) t [] = ⊥
LinesGive {S} gives s (line ∷ lines) t (y ∷ ys) = (mid : S) × gives s line mid y × LinesGive gives mid lines t ys
