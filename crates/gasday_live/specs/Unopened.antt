-- Why the text of an opening opens no book on which lines may follow.
use Rattle.std.specs.Prelude.{◌≡◌, ◌≢◌, ◌⊎◌, ℕ, ◌+◌, List, [], length, take, Ok, Err}
use Rattle.csv.specs.Reading.{strip_bom}
use Rattle.gd_day.specs.Calls.{calls_of}
use Rattle.gd_live.specs.TextLines.{IsClosed}
use Rattle.gd_text_part.specs.Texts.{Tells, rows_of}
use Rattle.gd_text_part.specs.declared.fault.Cause.TheVariants as cause
use Rattle.gd_text_part.specs.declared.fault.TextFault.{TextFault}
use Rattle.gd_text_part.specs.declared.fault.TextFault.TheVariants as fault
use Rattle.gd_text_part.specs.declared.kind.Form.TheVariants as form
use Rattle.gd_text_part.specs.declared.row.Row.{Row}
use Rattle.gasday_part.specs.OpenedBooks.{ExplainsNoBook}
use Rattle.gasday_part.specs.declared.opened.NoBook.{NoBook}
use Rattle.gasday_part.specs.declared.opened.NoBook.TheVariants as none

-- Behind so many rows no line can be served as one of its own, since a quotation mark brought what is of calls into the opening:
-- the next row is the first that is a call, or there is none, and the mark is open.
abbrev pub IsQuoted : List ℕ → List Row → ℕ → Type 0
IsQuoted text rows at =
    ((calls_of (take at rows) ≡ []) × (calls_of (take (at + 1) rows) ≢ []))
    ⊎ ((calls_of rows ≡ []) × ¬ (IsClosed (strip_bom text)) × (at ≡ length rows))

-- Why rows of a text open no book on which lines may follow: a quotation mark, or their own first refusal.
abbrev pub RowsOpenNone : List ℕ → List Row → NoBook → Type 0
RowsOpenNone text rows why =
    ((at : ℕ) × IsQuoted text rows at × (why ≡ none.Fault (fault.Row (at + 1) cause.FieldCount)))
    ⊎ ((calls_of rows ≡ []) × IsClosed (strip_bom text) × ExplainsNoBook rows why)

-- Why the text of an opening opens no book: it has no rows, as is told of a text in memory, or they open none.
abbrev pub OpensNone : List ℕ → NoBook → Type 0
OpensNone text why =
    ((f : TextFault) × Tells {X = List Row} (λ rows. rows) form.Day text (Err f) × (why ≡ none.Fault f))
    ⊎ ((rows : List Row) × (rows_of form.Day text ≡ Ok rows) × RowsOpenNone text rows why)
