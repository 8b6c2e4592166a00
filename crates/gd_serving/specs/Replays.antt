-- Pieces that are taken again, line by line.
use Rattle.std.specs.Prelude.{◌≡◌, ◌≢◌, ◌⊎◌, ℕ, ◌+◌, List, [], ◌∷◌, ◌++◌, length}
use Rattle.gd_journal_store.specs.Pieces.{Piece}
use Rattle.gd_serving.specs.Lines.{cut}
use Rattle.gd_serving.specs.Yields.{Yield, LinesGive, rows_of, replies_of, kept_count}
use Rattle.gd_serving.specs.Runs.{rows_text, AreOf}
use Rattle.gd_serving.specs.declared.replaying.ReplayFault.{ReplayFault}
use Rattle.gd_serving.specs.declared.replaying.ReplayFault.TheVariants.{Differs, OutOfMemory, Store}

abbrev pub BeginsWith : List ℕ → List ℕ → Type 0
BeginsWith bytes front = (rest : List ℕ) × (bytes ≡ front ++ rest)

module _ {S : Type 0} (gives : S → List ℕ → S → Yield → Type 0) where
  -- The rows of the pieces are whole lines, which lead from this stand to that one and yield what the pieces keep: so many
  -- of them kept something.
  pub record Replays (s : S) (ps : List Piece) (t : S) (calls : ℕ) : Type 0 where
    pub lines : List (List ℕ)
    pub whole : cut [] (rows_text ps) ≡ (lines, [])
    pub yields : List Yield
    pub gave : LinesGive gives s lines t yields
    pub are : AreOf yields ps
    pub count : calls ≡ kept_count yields

  -- The next line yields rows that aren't the next ones of the piece, or replies that aren't.
  pub record LineDiffers (mid : S) (p : Piece) (yields : List Yield) (rest : List (List ℕ)) : Type 0 where
    pub line : List ℕ
    pub more : List (List ℕ)
    pub is : rest ≡ line ∷ more
    pub stand : S
    pub yield : Yield
    pub gave : gives mid line stand yield
    pub other : (¬ BeginsWith p.0 (rows_of (yields ++ yield ∷ []))) ⊎ (¬ BeginsWith p.1 (replies_of (yields ++ yield ∷ [])))

  -- No line is left, and the piece has more rows or replies than its lines yield, or the beginning of a line.
  pub record EndDiffers (p : Piece) (yields : List Yield) (rest : List (List ℕ)) : Type 0 where
    pub none : rest ≡ []
    pub other : (p.0 ≢ rows_of yields) ⊎ ((p.1 ≢ replies_of yields) ⊎ ((cut [] p.0).1 ≢ []))

  -- The first lines of the piece yield what it begins with, and there it differs, at the call of this number.
  pub record PieceDiffers (s : S) (p : Piece) (first call : ℕ) : Type 0 where
    pub lines : List (List ℕ)
    pub rest : List (List ℕ)
    pub front : (cut [] p.0).0 ≡ lines ++ rest
    pub mid : S
    pub yields : List Yield
    pub gave : LinesGive gives s lines mid yields
    pub rows : BeginsWith p.0 (rows_of yields)
    pub replies : BeginsWith p.1 (replies_of yields)
    pub number : call ≡ first + kept_count yields
    pub differs : LineDiffers mid p yields rest ⊎ EndDiffers p yields rest

  -- Of these pieces, whose first one has this number and whose first call that one, those before the named one replay, and
  -- it differs.
  pub record FirstDiffers (s : S) (ps : List Piece) (number first piece call : ℕ) : Type 0 where
    pub before : List Piece
    pub it : Piece
    pub behind : List Piece
    pub are : ps ≡ before ++ it ∷ behind
    pub place : piece ≡ number + length before
    pub mid : S
    pub calls : ℕ
    pub replays : Replays s before mid calls
    pub differs : PieceDiffers mid it (first + calls) call

  -- a difference is told only where there is one
  abbrev pub Blames : S → List Piece → ℕ → ℕ → ReplayFault → Type 0
  Blames s ps number first (Differs piece call) = FirstDiffers s ps number first piece call
  Blames s ps number first OutOfMemory = Unit {0}
  Blames s ps number first (Store fault) = Unit {0}
