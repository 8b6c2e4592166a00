-- Books that rows open, and what is told of them.
use Rattle.std.proofs.Common.{◌≡◌, Ok, Bool, List, inl, inr, subst}
use Rattle.gd_book.specs.Kept.{Kept}
use Rattle.gd_day.specs.Calls.{calls_of}
use Rattle.gd_day.specs.Groups.{AllPass}
use Rattle.gd_day.specs.Opening.{Opened, opened_of}
use Rattle.gd_text_part.specs.declared.row.Row.{Row}
use Rattle.gasday_part.specs.Answers.{Told, TellsCourse, TellsDay}
use Rattle.gasday_part.specs.OpenedBooks.{IsOpened, OpensBook, ExplainsNone, ExplainsNoBook, TellsNoBook}
use Rattle.gasday_part.specs.declared.opened.NoBook.{NoBook}
use Rattle.gasday_part.specs.declared.opened.NoBook.TheVariants as none

-- what the calls give on the book that is opened tells the day
pub tells_opened : (strict : Bool) (rows : List Row) (book : Kept) (a : Told) → OpensBook rows book → TellsCourse strict book.day (calls_of rows) a → TellsDay strict rows (opened_of rows) a
tells_opened strict rows book a opens told =
    let is = opens.is_opened in
    rw opens.rows_say (inl (is.moments, is.calendar, subst (λ (k : Kept). TellsCourse strict k.day (calls_of rows) a) is.book_is told))

-- so does what tells that none is
pub tells_none : (strict : Bool) (rows : List Row) (why : NoBook) (a : Told) → ExplainsNoBook rows why → TellsNoBook why a → TellsDay strict rows (opened_of rows) a
tells_none strict rows (none.Fault f) a (inl memory) t = absurd (t.0 memory)
tells_none strict rows (none.Fault f) a (inr refusal) t = rw refusal t.1
tells_none strict rows (none.NoCalendar f) a day t = rw day.1 (inr (f, t.0, day.2, t.1))

-- what rows say is opened as a book, on which their calls can be made
pub opens_book : (rows : List Row) (o : Opened) (book : Kept) → opened_of rows ≡ Ok o → AllPass o.holdings.pipeline (calls_of rows) → IsOpened o book → OpensBook rows book
opens_book rows o book say pass is = record { opened = o; rows_say = say; is_opened = is; passes = rw is.book_is pass }

-- or as none
pub opens_none : (rows : List Row) (o : Opened) (why : NoBook) → opened_of rows ≡ Ok o → ExplainsNone o.date o.zone why → ExplainsNoBook rows why
opens_none rows o (none.Fault f) say is = inl is
opens_none rows o (none.NoCalendar f) say is = (o, say, is)
