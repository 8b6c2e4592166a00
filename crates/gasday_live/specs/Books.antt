-- What the file of a book keeps, in the words of a gas day's text.
use Rattle.std.specs.Prelude.{◌≡◌, ◌⊎◌, ℕ, ◌-◌, List, [], ◌∷◌, ◌++◌, length, drop, Ok, ⊤}
use Rattle.csv.specs.Reading.{strip_bom}
use Rattle.gd_text_part.specs.Texts.{IsWithin, rows_of}
use Rattle.gd_text_part.specs.declared.input.TheConstants.{MAX_BYTES}
use Rattle.gd_text_part.specs.declared.kind.Form.TheVariants as form
use Rattle.gd_text_part.specs.declared.records.TheConstants.{MAX_ROWS}
use Rattle.gd_text_part.specs.declared.row.Row.{Row}
use Rattle.gd_live.specs.TextLines.{IsClosed}
use Rattle.gd_book.specs.Kept.{Kept}
use Rattle.gd_day.specs.Calls.{calls_of}
use Rattle.gd_machine.specs.Day.{Day}
use Rattle.gd_machine.specs.History.{History}
use Rattle.gasday_part.specs.OpenedBooks.{OpensBook}
use Rattle.gd_journal_store.specs.Pieces.{Piece}
use Rattle.gd_serving.specs.Runs.{rows_text, told_text, AreOf}
use Rattle.gd_serving.specs.Replays.{FirstDiffers}
use Rattle.gd_serving.specs.declared.replaying.ReplayFault.{ReplayFault}
use Rattle.gd_serving.specs.declared.replaying.ReplayFault.TheVariants.{Differs, OutOfMemory, Store}
use Rattle.gd_serving.specs.Yields.{Yield, LinesGive, kept_count}
use Rattle.gd_live.specs.Kept.{AreCalls}
use Rattle.gd_live.specs.Lines.{Gives}
use Rattle.gd_live.specs.Seen.{at_desk}
use Rattle.gd_live.specs.Stands.{Stand, no_group}
use Rattle.gd_live.specs.declared.desk.Desk.{Desk}

-- The text of an opening: its rows, none of which is a call, open a book of this day, and lines may follow it.
pub record IsOpening (text : List ℕ) (rows : List Row) (day : Day) : Type 0 where
  pub closed : IsClosed (strip_bom text)
  pub within : IsWithin text
  pub reads : rows_of form.Day text ≡ Ok rows
  pub no_call : calls_of rows ≡ []
  pub opens : OpensBook rows (record { day = day; history = [] })

-- Pieces are an opening, of which nothing was told, and the calls behind it with the answer that `day` gives to them: a book of
-- this day, with this history.
pub record IsBook (ps : List Piece) (day : Day) (h : History) : Type 0 where
  pub opening : List ℕ
  pub rest : List Piece
  pub pieces : ps ≡ (opening, []) ∷ rest
  pub rows : List Row
  pub opens : IsOpening opening rows day
  pub calls : AreCalls day [] (rows_text rest) (told_text rest) h

-- The text of an opening opened this book, and has so many rows and bytes.
pub record OpensSo (text : List ℕ) (book : Kept) (count size : ℕ) : Type 0 where
  pub rows : List Row
  pub opens : IsOpening text rows book.day
  pub new : book.history ≡ []
  pub count_is : count ≡ length rows
  pub size_is : size ≡ length text

-- Where a book stands behind an opening of so many rows and bytes: as much may be kept as a text may have beside it.
abbrev pub stand_behind : Kept → ℕ → ℕ → Stand
stand_behind book count size = record {
  day = book.day;
  history = book.history;
  group = no_group;
  number = count;
  room = record { rows = MAX_ROWS - count; bytes = MAX_BYTES - size };
}

-- a new book behind this opening
abbrev pub new_stand : Day → List ℕ → List Row → Stand
new_stand day opening rows = stand_behind (record { day = day; history = [] }) (length rows) (length opening)

-- Lines that were taken behind the opening of pieces yield what the others keep. They lead to this history and leave this room,
-- and so many of them are calls.
pub record HasCalls (ps : List Piece) (calls : ℕ) (s : Stand) : Type 0 where
  pub opening : List ℕ
  pub rest : List Piece
  pub pieces : ps ≡ (opening, []) ∷ rest
  pub rows : List Row
  pub opens : IsOpening opening rows s.day
  pub lines : List (List ℕ)
  pub last : Stand
  pub yields : List Yield
  pub gave : LinesGive Gives (new_stand s.day opening rows) lines last yields
  pub are : AreOf yields rest
  pub count : calls ≡ kept_count yields
  pub history : s.history ≡ last.history
  pub room : s.room ≡ last.room

-- Pieces are a book that stands so, behind so many calls, where no row waits.
pub record Stands (ps : List Piece) (calls : ℕ) (s : Stand) : Type 0 where
  pub book : IsBook ps s.day s.history
  pub counted : HasCalls ps calls s
  pub group : s.group ≡ no_group

-- What a desk's lines give, as it is said along lines.
abbrev pub DeskGives : Desk → List ℕ → Desk → Yield → Type 0
DeskGives s line t y = Gives (at_desk s) line (at_desk t) y

-- Behind the opening of the pieces, lines give something else than these keep: first at this call of this piece.
pub record DiffersBehind (ps : List Piece) (piece call : ℕ) : Type 0 where
  pub opening : List ℕ
  pub pieces : ps ≡ (opening, []) ∷ drop 1 ps
  pub rows : List Row
  pub day : Day
  pub opens : IsOpening opening rows day
  pub desk : Desk
  pub stands : at_desk desk ≡ new_stand day opening rows
  pub differs : FirstDiffers DeskGives desk (drop 1 ps) 2 1 piece call

-- of the first piece as an opening no call is blamed
abbrev pub BlamesOpening : ReplayFault → Type 0
BlamesOpening (Differs piece call) = (piece ≡ 1) × (call ≡ 0)
BlamesOpening OutOfMemory = ⊤
BlamesOpening (Store fault) = ⊤

-- A difference is told of the first piece as an opening, or where there is one behind that.
abbrev pub Blames : List Piece → ReplayFault → Type 0
Blames ps (Differs piece call) = ((piece ≡ 1) × (call ≡ 0)) ⊎ DiffersBehind ps piece call
Blames ps OutOfMemory = ⊤
Blames ps (Store fault) = ⊤

-- What is kept of lines on a book where no row waits makes it a longer one.
pub record BooksGrow : Type 0 where
  pub grows : (s t : Stand) (lines : List (List ℕ)) (ys : List Yield) (had more : List Piece) → IsBook had s.day s.history → s.group ≡ no_group
      → LinesGive Gives s lines t ys → AreOf ys more → IsBook (had ++ more) t.day t.history
