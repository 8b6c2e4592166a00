-- What a run on a book's file came to.
use Rattle.std.specs.Prelude.{◌≡◌, ◌⊎◌, ℕ, ◌+◌, Bool, true, false, if◌then◌else◌, List, [], ◌∷◌, ◌++◌, length, take, Ok, Option, IfSome}
use Rattle.std.specs.Io.KnownBytes.{Appends, Consumes}
use Rattle.sqlite.specs.Effect.{Database}
use Rattle.sqlite.specs.State.{State, HasCleanDisk}
use Rattle.sqlite.specs.Tree.{Trees}
use Rattle.gd_journal_store.specs.Pieces.{Piece, Keeps, IsSettled, HasPieces}
use Rattle.gd_journal_store.specs.Table.{no_schema}
use Rattle.gd_machine.specs.Headline.{Holds}
use Rattle.gd_replies.specs.Lines.{lines_of}
use Rattle.gd_replies.specs.declared.reply.Reply.{Reply}
use Rattle.gd_replies.specs.declared.reply.Reply.TheVariants as reply
use Rattle.gd_text_part.specs.Texts.{BlamesNoRow, rows_of}
use Rattle.gd_text_part.specs.declared.fault.TextFault.{TextFault}
use Rattle.gd_text_part.specs.declared.fault.TextFault.TheVariants as fault
use Rattle.gd_text_part.specs.declared.kind.Form.TheVariants as form
use Rattle.gd_text_part.specs.declared.row.Row.{Row}
use Rattle.gd_live.specs.Openings.{IsOpening, HasLongOpening}
use Rattle.gd_serving.specs.Lines.{cut}
use Rattle.gd_serving.specs.Runs.{EndsAs, AreOf, HasKept}
use Rattle.gd_serving.specs.Yields.{Yield, LinesGive, told_of}
use Rattle.gd_serving.specs.declared.failure.Failure.{Failure}
use Rattle.gd_serving.specs.declared.failure.Failure.TheVariants.{ReadFailed, OutOfMemory, Store, WriteFailed}
use Rattle.gd_serving.specs.declared.failure.Finish.{Finish}
use Rattle.gd_serving.specs.declared.failure.Finish.TheVariants.{Ended, Unfinished}
use Rattle.gd_serving.specs.declared.replaying.ReplayFault.{ReplayFault}
use Rattle.gd_live.specs.Lines.{Gives}
use Rattle.gd_live.specs.Stands.{Stand}
use Rattle.gasday_part.specs.Answers.{Told, one, fault_answer, no_memory}
use Rattle.gasday_part.specs.OpenedBooks.{TellsNoBook}
use Rattle.gasday_part.specs.Output.{Written, WritesTold}
use Rattle.gasday_part.specs.declared.opened.NoBook.{NoBook}
use Rattle.gasday_part.specs.declared.opened.NoBook.TheVariants as none
use Rattle.gasday_live.specs.Books.{IsBook, Stands}
use Rattle.gasday_live.specs.Faults.{Explains, TellsFault}
use Rattle.gasday_live.specs.Unopened.{OpensNone}
use Rattle.gasday_live.specs.Watching.{any_fault}

-- The row with which a failure is told; nothing is written after a failed write.
abbrev pub TellsFailure : Option (List ℕ) → Option (List ℕ) → Failure → ℕ → Type 0
TellsFailure before behind WriteFailed status = (behind ≡ before) × (status ≡ 2)
TellsFailure before behind ReadFailed status = Written before behind status (fault_answer fault.ReadFailed) × (status ≡ 2)
TellsFailure before behind OutOfMemory status = Written before behind status (one no_memory 2) × (status ≡ 2)
TellsFailure before behind (Store f) status = Written before behind status (one reply.Store 2) × (status ≡ 2)

-- ---- where a run begins

-- What a run finds: what the file kept before it, the head of the input that opened a book where it kept none, and how many calls
-- the book has.
pub record Found : Type 0 where
  pub had : Database
  pub head : List ℕ
  pub calls : ℕ

abbrev pub found_at : Database → List ℕ → ℕ → Found
found_at had head calls = record { had = had; head = head; calls = calls }

-- no book was kept: there was no table at all, or a journal without pieces
abbrev pub KeptNone : Database → Type 0
KeptNone had = (had.schema ≡ no_schema) ⊎ Keeps [] had

-- The pieces are all that was kept, and no row of the input was counted yet.
abbrev pub AreKept : Database → List ℕ → List Piece → ℕ → Type 0
AreKept had head ps number = Keeps ps had × (head ≡ []) × (number ≡ 0)

-- None was kept: the one piece is the head of the input, of which nothing was told, and its rows are counted.
abbrev pub AreNew : Database → List ℕ → List Piece → ℕ → Type 0
AreNew had head ps number =
    KeptNone had × (ps ≡ (head, []) ∷ []) × ((rows : List Row) × (rows_of form.Day head ≡ Ok rows) × (number ≡ length rows))

-- these pieces are found, a book that stands so
pub record IsFound (found : Found) (s : Stand) (ps : List Piece) : Type 0 where
  pub pieces : AreKept found.had found.head ps s.number ⊎ AreNew found.had found.head ps s.number
  pub stands : Stands ps found.calls s

-- What was read before lines are taken: nothing; or the input, none of whose lines is of calls, and which ends behind a whole one;
-- or the whole lines before the first one that is of calls, and bytes that begin with that.
abbrev pub IsHead : List ℕ → List ℕ → Type 0
IsHead head bytes = ((head ≡ []) × (bytes ≡ [])) ⊎ (((bytes ≡ []) × IsOpening head [] true) ⊎ IsOpening head bytes false)

-- The file is settled on the pieces that are found, and this is the number of the next one, if the disk is clean.
abbrev pub IsBegun : Found → ℕ → Stand → State → Type 0
IsBegun found next s kept = HasCleanDisk kept → (ps : List Piece) × IsFound found s ps × IsSettled ps kept × (next ≡ length ps + 1)

-- Why the head of an input opens no book: it can't be read, or is longer than a text may be; or its whole lines were read, and open
-- none.
abbrev pub HasNoBook : Option (List ℕ) → NoBook → Type 0
HasNoBook all why =
    ((f : TextFault) × BlamesNoRow (IfSome all HasLongOpening) f × (why ≡ none.Fault f))
    ⊎ ((head bytes : List ℕ) × (rest : Option (List ℕ)) × Consumes all rest (head ++ bytes) × IsHead head bytes × OpensNone head why)

-- Why a run takes no line, and how it is told: no book was kept, and the head of the input opens none; or the book that was kept
-- isn't made again, or the file can't be read or written.
abbrev pub TellsUnbegun : Option (List ℕ) → State → State → Told → Type 0
TellsUnbegun all was new a =
    ((why : NoBook) × HasNoBook all why × (HasCleanDisk new → KeptNone was.now) × TellsNoBook why a)
    ⊎ ((why : ReplayFault) × (HasCleanDisk new → Explains was why) × TellsFault why a)

-- A run begins where so much was kept, behind a head of the input with these bytes behind it that were read too.
pub record Begins (had : Database) (all rest : Option (List ℕ)) (bytes : List ℕ) (calls next : ℕ) (s : Stand) (kept : State) : Type 0 where
  pub head : List ℕ
  pub read : Consumes all rest (head ++ bytes)
  pub is_head : IsHead head bytes
  pub begun : IsBegun (found_at had head calls) next s kept

-- ---- lines on a book

-- What holds of the pieces that were found, if the disk is clean at the end.
abbrev pub OnBook : Found → Stand → State → (List Piece → Type 0) → Type 0
OnBook found start new P = HasCleanDisk new → (ps : List Piece) × IsFound found start ps × P ps

-- The file is settled on these pieces, and behind them on all that is kept of what lines yield. Together they are a book again,
-- which stands so.
pub record HasGrown (ps : List Piece) (ys : List Yield) (last : Stand) (s : State) : Type 0 where
  pub more : List Piece
  pub settled : IsSettled (ps ++ more) s
  pub are : AreOf ys more
  pub book : IsBook (ps ++ more) last.day last.history

-- All these lines were taken and told, and are kept.
pub record AllServed (found : Found) (start : Stand) (lines : List (List ℕ)) (last : Stand) (new : State) (before behind : Option (List ℕ)) : Type 0 where
  pub yields : List Yield
  pub gave : LinesGive Gives start lines last yields
  pub tells : Appends before behind (told_of yields)
  pub keeps : OnBook found start new (λ ps. HasGrown ps yields last new)

module _ (found : Found) (start : Stand) (text : List ℕ) (new : State) (before behind : Option (List ℕ)) where
  -- A text came to its end: all its lines were taken and told, and are kept, and whether a row was faulty is known.
  pub record ComesToEnd (finish : Finish) (is_faulty : Bool) : Type 0 where
    pub ends : EndsAs (cut [] text).1 finish
    pub last : Stand
    pub all : AllServed found start (cut [] text).0 last new before behind
    pub fault : is_faulty ≡ any_fault all.yields

  -- The first lines were taken and told, and are kept; of the rest nothing was.
  pub record FrontServed : Type 0 where
    pub served : List (List ℕ)
    pub rest : List (List ℕ)
    pub front : (cut [] text).0 ≡ served ++ rest
    pub last : Stand
    pub all : AllServed found start served last new before behind

  -- The first lines were taken and told. The late ones were taken, and nothing of them was told: a crash leaves the first ones,
  -- or those and the late ones, each as a whole.
  pub record FrontUnkept : Type 0 where
    pub served : List (List ℕ)
    pub late : List (List ℕ)
    pub rest : List (List ℕ)
    pub front : (cut [] text).0 ≡ (served ++ late) ++ rest
    pub mid : Stand
    pub last : Stand
    pub yields : List Yield
    pub more : List Yield
    pub gave : LinesGive Gives start served mid yields
    pub gave_more : LinesGive Gives mid late last more
    pub tells : Appends before behind (told_of yields)
    pub leaves : OnBook found start new (λ ps. (db : Trees) → new.may_leave db → HasKept ps yields db ⊎ HasKept ps (yields ++ more) db)

  -- The first lines were taken and are kept, and a front of what they tell was told.
  pub record FrontUntold : Type 0 where
    pub served : List (List ℕ)
    pub rest : List (List ℕ)
    pub front : (cut [] text).0 ≡ served ++ rest
    pub last : Stand
    pub yields : List Yield
    pub gave : LinesGive Gives start served last yields
    pub bytes : ℕ
    pub tells : Appends before behind (take bytes (told_of yields))
    pub keeps : OnBook found start new (λ ps. HasGrown ps yields last new)

  -- the lines of a text stop at a failure
  abbrev pub Stops : Failure → Type 0
  Stops ReadFailed = FrontServed
  Stops OutOfMemory = FrontServed
  Stops (Store f) = FrontUnkept
  Stops WriteFailed = FrontUntold

-- ---- a run

-- How the end of the input is told: not at all, with the status 1 where a row was faulty and else 0; or as a failed read where it
-- leaves a line unfinished.
abbrev pub TellsFinish : Option (List ℕ) → Option (List ℕ) → Bool → Finish → ℕ → Type 0
TellsFinish told behind is_faulty Ended status = (behind ≡ told) × (status ≡ (if is_faulty then 1 else 0))
TellsFinish told behind is_faulty Unfinished status = TellsFailure told behind ReadFailed status

module _ (found : Found) (start : Stand) (new : State) (told behind : Option (List ℕ)) (status : ℕ) (text : List ℕ) where
  -- All lines of the text were taken, told and kept.
  pub record RunsOut : Type 0 where
    pub mid : Option (List ℕ)
    pub finish : Finish
    pub is_faulty : Bool
    pub ended : ComesToEnd found start text new told mid finish is_faulty
    pub tells : TellsFinish mid behind is_faulty finish status

  -- The run stopped at a failure, which is told where a row can be.
  pub record BreaksOff : Type 0 where
    pub mid : Option (List ℕ)
    pub why : Failure
    pub stopped : Stops found start text new told mid why
    pub tells : TellsFailure mid behind why status

  abbrev pub Serves : Type 0
  Serves = RunsOut ⊎ BreaksOff

-- a crash leaves these pieces, if others then behind them
abbrev pub LeavesFront : List Piece → State → Type 0
LeavesFront ps s = (db : Trees) → s.may_leave db → (more : List Piece) × HasPieces (ps ++ more) db

-- no piece that a journal was settled on is lost
abbrev pub LosesNone : State → State → Type 0
LosesNone was new = HasCleanDisk new → (ps : List Piece) → IsSettled ps was → LeavesFront ps new

-- A run took no line: why was told, or that memory ran out. No piece was lost.
abbrev pub Untaken : Option (List ℕ) → State → State → Option (List ℕ) → Option (List ℕ) → ℕ → Type 0
Untaken all was new before behind status =
    WritesTold (λ a. TellsUnbegun all was new a ⊎ (a ≡ one no_memory 2)) before behind status × LosesNone was new

-- the row that tells that a book is open which stands so behind so many calls
abbrev pub opened_row : Stand → ℕ → Reply
opened_row s calls = reply.Opened s.day.name calls (length s.history)

-- That the book is open was told, and then lines were served on it: those in the bytes that were read already, and in the rest.
pub record ServesOpened (found : Found) (start : Stand) (new : State) (bytes : List ℕ) (rest before behind : Option (List ℕ)) (status : ℕ) : Type 0 where
  pub told : Option (List ℕ)
  pub opened : Appends before told (lines_of (opened_row start found.calls ∷ []))
  pub holds : Holds start.day start.history
  pub serves : IfSome rest (λ rest. Serves found start new told behind status (bytes ++ rest))

-- That the book is open was not told as a whole, or not flushed, so that no line was taken; the book is kept as it was found.
pub record OpensUntold (found : Found) (start : Stand) (new : State) (before behind : Option (List ℕ)) (status : ℕ) : Type 0 where
  pub written : Written before behind status (one (opened_row start found.calls) 2)
  pub status_is : status ≡ 2
  pub keeps : OnBook found start new (λ ps. IsSettled ps new)

-- A run was on the book that the file kept, or that the head of the input opened.
pub record Taken (all : Option (List ℕ)) (was new : State) (before behind : Option (List ℕ)) (status : ℕ) : Type 0 where
  pub found : Found
  pub had : found.had ≡ was.now
  pub start : Stand
  pub bytes : List ℕ
  pub rest : Option (List ℕ)
  pub read : Consumes all rest (found.head ++ bytes)
  pub head : IsHead found.head bytes
  pub serves : OpensUntold found start new before behind status ⊎ ServesOpened found start new bytes rest before behind status

abbrev pub Runs : Option (List ℕ) → State → State → Option (List ℕ) → Option (List ℕ) → ℕ → Type 0
Runs all was new before behind status = Untaken all was new before behind status ⊎ Taken all was new before behind status
