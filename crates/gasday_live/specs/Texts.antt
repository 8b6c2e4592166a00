-- The text that the file of a book keeps: as it is printed, and as `day` reads it.
use Rattle.std.specs.Prelude.{◌≡◌, ◌⊎◌, ℕ, List, [], ◌++◌, take, Option, ⊤}
use Rattle.std.specs.Io.KnownBytes.{Appends}
use Rattle.sqlite.specs.State.{State}
use Rattle.gd_text_part.specs.Texts.{IsWithin}
use Rattle.gd_machine.specs.Day.{Day}
use Rattle.gd_machine.specs.Headline.{Holds}
use Rattle.gd_machine.specs.History.{History}
use Rattle.gd_replies.specs.Lines.{lines_of}
use Rattle.gd_journal_store.specs.Pieces.{Piece, Keeps}
use Rattle.gd_serving.specs.Runs.{AreOf, rows_text, told_text}
use Rattle.gd_serving.specs.Yields.{Yield, LinesGive}
use Rattle.gd_serving.specs.declared.failure.Failure.{Failure}
use Rattle.gd_serving.specs.declared.failure.Failure.TheVariants.{ReadFailed, OutOfMemory, Store, WriteFailed}
use Rattle.gd_live.specs.Lines.{Gives}
use Rattle.gd_live.specs.Stands.{Stand}
use Rattle.gasday_words.specs.declared.order.Command.TheVariants as command
use Rattle.gasday_part.specs.Answers.{Told, AnswersBytes}
use Rattle.gasday_live.specs.Books.{IsBook, Stands}
use Rattle.gasday_live.specs.Runs.{TellsFailure}

-- bytes at the front of the text that the file keeps were written; none where it keeps no text
abbrev pub WritesFront : State → Option (List ℕ) → Option (List ℕ) → Type 0
WritesFront was before behind =
    Appends before behind [] ⊎ ((ps : List Piece) × Keeps ps was.now × ((n : ℕ) × Appends before behind (take n (rows_text ps))))

-- why not all of a text is printed: the file can't be read, or a write fails
abbrev pub FailsPrint : Failure → Type 0
FailsPrint (Store f) = ⊤
FailsPrint WriteFailed = ⊤
FailsPrint ReadFailed = ⊥
FailsPrint OutOfMemory = ⊥

-- The text that the file keeps was written as a whole, with status 0; or bytes at its front, and why no more.
abbrev pub Prints : State → Option (List ℕ) → Option (List ℕ) → ℕ → Type 0
Prints was before behind status =
    ((ps : List Piece) × Keeps ps was.now × Appends before behind (rows_text ps) × (status ≡ 0))
    ⊎ ((mid : Option (List ℕ)) × WritesFront was before mid × ((why : Failure) × FailsPrint why × TellsFailure mid behind why status))

-- `day` may answer the text of these pieces with what was told of them, and status 0.
pub record IsDay (ps : List Piece) : Type 0 where
  pub answer : Told
  pub answers : AnswersBytes command.Day (rows_text ps) answer
  pub told : told_text ps ≡ lines_of answer.replies
  pub ends : answer.status ≡ 0

-- A book's pieces are the text of its day, where that is no longer than a text may be.
abbrev pub BooksAreDays : Type 0
BooksAreDays = (ps : List Piece) (day : Day) (h : History) → IsBook ps day h → Holds day h → IsWithin (rows_text ps) → IsDay ps

-- So are those of a book that was made again, with no such premise: there was room for its lines behind the opening.
abbrev pub KeptBooksAreDays : Type 0
KeptBooksAreDays = (ps : List Piece) (calls : ℕ) (s : Stand) → Stands ps calls s → Holds s.day s.history → IsDay ps

-- And so are they with all that is kept of lines that were served on it since: there was room for these too.
abbrev pub ServedBooksAreDays : Type 0
ServedBooksAreDays =
    (ps more : List Piece) (calls : ℕ) (s t : Stand) (lines : List (List ℕ)) (ys : List Yield) → Stands ps calls s
    → LinesGive Gives s lines t ys → AreOf ys more → Holds t.day t.history → IsDay (ps ++ more)
