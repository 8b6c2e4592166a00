-- What one turn keeps and tells: one read, then one piece, and then what is told of its lines.
use Rattle.std.specs.Prelude.{◌≡◌, ℕ, ◌+◌, List, [], ◌∷◌, ◌++◌, length, take, Option, if◌then◌else◌}
use Rattle.std.specs.Io.KnownBytes.{Appends}
use Rattle.sqlite.specs.State.{State, HasCleanDisk}
use Rattle.gd_journal_store.specs.Pieces.{Piece, IsSettled, LeavesOr}
use Rattle.gd_serving.specs.Yields.{Yield, LinesGive, kept_of, piece_of, told_of, is_nothing}
use Rattle.gd_serving.specs.declared.failure.Failure.{Failure}
use Rattle.gd_serving.specs.declared.failure.Failure.TheVariants.{ReadFailed, OutOfMemory, Store, WriteFailed}

-- these pieces, and one more if it has anything
abbrev pub grown : List Piece → Piece → List Piece
grown ps p = if is_nothing p then ps else ps ++ p ∷ []

-- what holds of the pieces that the journal was settled on, if this was its next number and the disk is clean at the end
abbrev pub OnSettled : ℕ → State → State → (List Piece → Type 0) → Type 0
OnSettled was old new P = HasCleanDisk new → (ps : List Piece) → IsSettled ps old → was ≡ length ps + 1 → P ps

-- the journal is settled on these pieces, and this is its next number
abbrev pub IsSettledAt : List Piece → ℕ → State → Type 0
IsSettledAt ps number s = IsSettled ps s × (number ≡ length ps + 1)

-- Nothing was kept and nothing told.
pub record IsUntouched (was : ℕ) (old new : State) (before behind : Option (List ℕ)) : Type 0 where
  pub tells : Appends before behind []
  pub keeps : OnSettled was old new (λ ps. IsSettled ps new)

-- Nothing was told. A crash leaves the piece or not, as a whole.
pub record IsUnkept (p : Piece) (was : ℕ) (old new : State) (before behind : Option (List ℕ)) : Type 0 where
  pub tells : Appends before behind []
  pub leaves : OnSettled was old new (λ ps. LeavesOr (grown ps p) old new)

-- The piece is kept, and a front of this was told.
pub record IsUntold (p : Piece) (told : List ℕ) (was : ℕ) (old new : State) (before behind : Option (List ℕ)) : Type 0 where
  pub bytes : ℕ
  pub tells : Appends before behind (take bytes told)
  pub keeps : OnSettled was old new (λ ps. IsSettled (grown ps p) new)

-- why what was given is not kept, or not told as a whole
abbrev pub Fails : Yield → ℕ → State → State → Option (List ℕ) → Option (List ℕ) → Failure → Type 0
Fails y was old new before behind ReadFailed = ⊥
Fails y was old new before behind OutOfMemory = ⊥
Fails y was old new before behind (Store fault) = IsUnkept (kept_of y) was old new before behind
Fails y was old new before behind WriteFailed = IsUntold (kept_of y) y.told was old new before behind

module _ {S : Type 0} (gives : S → List ℕ → S → Yield → Type 0) (s : S) (lines : List (List ℕ)) where
  -- the lines were taken, and this holds of what they yield
  abbrev pub Taken : (List Yield → Type 0) → Type 0
  Taken P = (t : S) × (ys : List Yield) × LinesGive gives s lines t ys × P ys

  -- A turn that goes on took these lines: it kept what they yield, and told it all.
  pub record GoesOn (t : S) (was is : ℕ) (old new : State) (before behind : Option (List ℕ)) : Type 0 where
    pub yields : List Yield
    pub gave : LinesGive gives s lines t yields
    pub tells : Appends before behind (told_of yields)
    pub keeps : OnSettled was old new (λ ps. IsSettledAt (grown ps (piece_of yields)) is new)

  -- A turn that stops took none of the lines, or all: then a front of what is told of them was told only if they are kept.
  abbrev pub Stops : ℕ → State → State → Option (List ℕ) → Option (List ℕ) → Failure → Type 0
  Stops was old new before behind ReadFailed = IsUntouched was old new before behind
  Stops was old new before behind OutOfMemory = IsUntouched was old new before behind
  Stops was old new before behind (Store fault) = Taken (λ ys. IsUnkept (piece_of ys) was old new before behind)
  Stops was old new before behind WriteFailed = Taken (λ ys. IsUntold (piece_of ys) (told_of ys) was old new before behind)
