-- What a run of turns keeps and tells.
use Rattle.std.specs.Prelude.{◌≡◌, ◌≢◌, ◌⊎◌, ℕ, ◌+◌, List, [], ◌++◌, length, take, flat_map, Option}
use Rattle.std.specs.Io.KnownBytes.{Appends}
use Rattle.sqlite.specs.Tree.{Trees}
use Rattle.sqlite.specs.State.{State}
use Rattle.gd_journal_store.specs.Pieces.{Piece, IsSettled, HasPieces}
use Rattle.gd_serving.specs.Yields.{Yield, LinesGive, rows_of, replies_of, told_of}
use Rattle.gd_serving.specs.Turns.{OnSettled}
use Rattle.gd_serving.specs.declared.failure.Failure.{Failure}
use Rattle.gd_serving.specs.declared.failure.Failure.TheVariants.{ReadFailed, OutOfMemory, Store, WriteFailed}
use Rattle.gd_serving.specs.declared.failure.Finish.{Finish}
use Rattle.gd_serving.specs.declared.failure.Finish.TheVariants.{Ended, Unfinished}

-- the rows of pieces, one after the other, and what was told of them
abbrev pub rows_text : List Piece → List ℕ
rows_text ps = flat_map (λ (p : Piece). p.0) ps

abbrev pub told_text : List Piece → List ℕ
told_text ps = flat_map (λ (p : Piece). p.1) ps

-- these pieces are all that is kept of what lines yield
pub record AreOf (ys : List Yield) (ps : List Piece) : Type 0 where
  pub rows : rows_text ps ≡ rows_of ys
  pub replies : told_text ps ≡ replies_of ys

-- The trees keep these pieces, and behind them all that is kept of what lines yield.
pub record HasKept (ps : List Piece) (ys : List Yield) (db : Trees) : Type 0 where
  pub more : List Piece
  pub has : HasPieces (ps ++ more) db
  pub are : AreOf ys more

-- The journal is settled on these pieces, and behind them all that is kept of what lines yield, under this next number.
pub record KeepsOn (ps : List Piece) (ys : List Yield) (number : ℕ) (s : State) : Type 0 where
  pub more : List Piece
  pub settled : IsSettled (ps ++ more) s
  pub next : number ≡ length (ps ++ more) + 1
  pub are : AreOf ys more

-- all that is kept of what lines yield is settled behind the pieces that were there
abbrev pub Keeps : List Yield → ℕ → State → State → Type 0
Keeps ys was old new = OnSettled was old new (λ ps. (number : ℕ) × KeepsOn ps ys number new)

-- a run that ends at the end of the text leaves no line unfinished, or the beginning of one, which was not taken
abbrev pub EndsAs : List ℕ → Finish → Type 0
EndsAs begun Ended = begun ≡ []
EndsAs begun Unfinished = begun ≢ []

module _ {S : Type 0} (gives : S → List ℕ → S → Yield → Type 0) (s : S) (text : List (List ℕ)) where
  -- All lines of a text were taken and told, and are kept.
  pub record Served (t : S) (was : ℕ) (old new : State) (before behind : Option (List ℕ)) : Type 0 where
    pub yields : List Yield
    pub gave : LinesGive gives s text t yields
    pub tells : Appends before behind (told_of yields)
    pub keeps : Keeps yields was old new

  -- The first lines were taken and told, and are kept; of the rest nothing was.
  pub record StoppedUnread (was : ℕ) (old new : State) (before behind : Option (List ℕ)) : Type 0 where
    pub lines : List (List ℕ)
    pub rest : List (List ℕ)
    pub front : text ≡ lines ++ rest
    pub stand : S
    pub yields : List Yield
    pub gave : LinesGive gives s lines stand yields
    pub tells : Appends before behind (told_of yields)
    pub keeps : Keeps yields was old new

  -- The first lines were taken and told. The last ones were taken, and nothing of them was told: a crash leaves the first
  -- ones, or those and the last ones, each as a whole.
  pub record StoppedUnkept (was : ℕ) (old new : State) (before behind : Option (List ℕ)) : Type 0 where
    pub lines : List (List ℕ)
    pub last : List (List ℕ)
    pub rest : List (List ℕ)
    pub front : text ≡ (lines ++ last) ++ rest
    pub mid : S
    pub stand : S
    pub yields : List Yield
    pub more : List Yield
    pub gave : LinesGive gives s lines mid yields
    pub gave_more : LinesGive gives mid last stand more
    pub tells : Appends before behind (told_of yields)
    pub leaves : OnSettled was old new (λ ps. (db : Trees) → new.may_leave db → HasKept ps yields db ⊎ HasKept ps (yields ++ more) db)

  -- The first lines were taken and are kept, and a front of what they tell was told.
  pub record StoppedUntold (was : ℕ) (old new : State) (before behind : Option (List ℕ)) : Type 0 where
    pub lines : List (List ℕ)
    pub rest : List (List ℕ)
    pub front : text ≡ lines ++ rest
    pub stand : S
    pub yields : List Yield
    pub gave : LinesGive gives s lines stand yields
    pub bytes : ℕ
    pub tells : Appends before behind (take bytes (told_of yields))
    pub keeps : Keeps yields was old new

  -- A run that stops: a front of what is told was told. Either all lines of which anything was told are kept, or nothing of
  -- the last ones was told, and a crash leaves them or not.
  abbrev pub Stopped : ℕ → State → State → Option (List ℕ) → Option (List ℕ) → Failure → Type 0
  Stopped was old new before behind ReadFailed = StoppedUnread was old new before behind
  Stopped was old new before behind OutOfMemory = StoppedUnread was old new before behind
  Stopped was old new before behind (Store fault) = StoppedUnkept was old new before behind
  Stopped was old new before behind WriteFailed = StoppedUntold was old new before behind
