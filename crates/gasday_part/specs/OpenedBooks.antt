-- The book that rows of a gas day open, or why they open none.
use Rattle.std.specs.Prelude.{◌≡◌, ◌≢◌, ◌⊎◌, ℕ, List, [], Ok, Err}
use Rattle.gd_book.specs.Kept.{Kept}
use Rattle.gd_day.specs.Calls.{calls_of}
use Rattle.gd_day.specs.Groups.{AllPass}
use Rattle.gd_day.specs.Opening.{Opened, opened_of}
use Rattle.gd_text_part.specs.Dates.{YearMonthDay}
use Rattle.gd_text_part.specs.declared.fault.TextFault.TheVariants as fault
use Rattle.gd_text_part.specs.declared.row.Row.{Row}
use Rattle.gasday_part.specs.Answers.{IsCalendarIn, ExplainsDay, day_in, no_calendar, Told, fault_answer, refused}
use Rattle.gasday_part.specs.declared.day.DayFault.TheVariants as no
use Rattle.gasday_part.specs.declared.opened.NoBook.{NoBook}
use Rattle.gasday_part.specs.declared.opened.NoBook.TheVariants as none

-- A book with no event, of the day that is opened with this, in its calendar.
pub record IsOpened (o : Opened) (book : Kept) : Type 0 where
  pub moments : List ℕ
  pub calendar : IsCalendarIn o.date o.zone moments
  pub book_is : book ≡ record { day = day_in o moments; history = [] }

-- The rows say what the book is opened with, and their calls can be made on it.
pub record OpensBook (rows : List Row) (book : Kept) : Type 0 where
  pub opened : Opened
  pub rows_say : opened_of rows ≡ Ok opened
  pub is_opened : IsOpened opened book
  pub passes : AllPass book.day.holdings.pipeline (calls_of rows)

-- Why no book is opened on a date in a zone: there is no calendar, or memory is wanting.
abbrev pub ExplainsNone : YearMonthDay → List ℕ → NoBook → Type 0
ExplainsNone date zone (none.Fault f) = f ≡ fault.OutOfMemory
ExplainsNone date zone (none.NoCalendar f) = ExplainsDay date zone f

-- Why rows open no book: their first refusal, or memory is wanting; or their gas day has no calendar.
abbrev pub ExplainsNoBook : List Row → NoBook → Type 0
ExplainsNoBook rows (none.Fault f) = (f ≡ fault.OutOfMemory) ⊎ (opened_of rows ≡ Err f)
ExplainsNoBook rows (none.NoCalendar f) = (o : Opened) × (opened_of rows ≡ Ok o) × ExplainsDay o.date o.zone f

-- How it is told that rows open no book; want of memory isn't.
abbrev pub TellsNoBook : NoBook → Told → Type 0
TellsNoBook (none.Fault f) a = (f ≢ fault.OutOfMemory) × (a ≡ fault_answer f)
TellsNoBook (none.NoCalendar f) a = (f ≢ no.OutOfMemory) × (a ≡ refused (no_calendar f))
