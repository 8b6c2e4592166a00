-- The pieces of a book are the text of a day.
use Rattle.std.proofs.Common.{◌≡◌, inl, ℕ, false, List, [], ◌∷◌, ◌++◌, refl, sym, ap, subst}
use Rattle.gd_text_part.specs.Texts.{IsWithin}
use Rattle.gd_day.specs.Calls.{calls_of}
use Rattle.gd_day.specs.Opening.{Opened}
use Rattle.gd_machine.specs.Day.{Day}
use Rattle.gd_machine.specs.Headline.{Holds}
use Rattle.gd_machine.specs.History.{History}
use Rattle.gd_book.specs.Kept.{Kept}
use Rattle.gd_course.specs.Course.{Runs}
use Rattle.gd_journal_store.specs.Pieces.{Piece}
use Rattle.gd_serving.specs.Runs.{rows_text, told_text}
use Rattle.gd_live.specs.Kept.{AreCalls}
use Rattle.gd_live.specs.OneText.{OpensAs, RunsAs}
use Rattle.gasday_words.specs.declared.order.Command.TheVariants as command
use Rattle.gasday_part.specs.Answers.{Told, AnswersBytes, AnswersRows, AnswersText, IsCalendarIn, TellsDay, day_in}
use Rattle.gasday_live.specs.Books.{IsBook}
use Rattle.gasday_live.specs.Texts.{IsDay, BooksAreDays}

-- the law of one text, as it is told
abbrev pub CallsFollow : Type 0
CallsFollow = (opening kept told : List ℕ) (o : Opened) (day : Day) (after : History) → OpensAs opening o → day.holdings ≡ o.holdings → AreCalls day [] kept told after → RunsAs (opening ++ kept) o day told after

-- a text that runs on the book that it opens may be answered so
answered : (text told : List ℕ) (o : Opened) (moments : List ℕ) (day : Day) (h : History) → IsCalendarIn o.date o.zone moments → day ≡ day_in o moments → (run : RunsAs text o day told h) → Holds day h → IsWithin text
    → AnswersBytes command.Day text (record { replies = run.replies; status = 0 })
answered text told o moments day h calendar is run holds within =
    let a : Told = record { replies = run.replies; status = 0 } in
    let runs = subst (λ (d : Day). Runs d [] (calls_of run.rows) run.replies h) is run.runs in
    let held = subst (λ (d : Day). Holds d h) is holds in
    inl (within, subst (λ r. AnswersText (AnswersRows command.Day) r a) (sym run.reads) (subst (λ r. TellsDay false run.rows r a) (sym run.opens) (inl (moments, calendar, inl (run.replies, h, runs, held, refl)))))

-- the opening and the other pieces of a book
day_of : CallsFollow → (ps : List Piece) (day : Day) (h : History) → (book : IsBook ps day h) → Holds day h → IsWithin (rows_text ((book.opening, []) ∷ book.rest)) → IsDay ((book.opening, []) ∷ book.rest)
day_of follow ps day h book holds within =
    let at = book.opens.opens in
    let is : day ≡ day_in at.opened at.is_opened.moments = ap (λ (b : Kept). b.day) at.is_opened.book_is in
    let opens : OpensAs book.opening at.opened = record { closed = book.opens.closed; rows = book.rows; reads = book.opens.reads; no_calls = book.opens.no_call; opens = at.rows_say } in
    let run = follow book.opening (rows_text book.rest) (told_text book.rest) at.opened day h opens (ap (λ (d : Day). d.holdings) is) book.calls in
    record {
      answer = record { replies = run.replies; status = 0 };
      answers = answered (book.opening ++ rows_text book.rest) (told_text book.rest) at.opened at.is_opened.moments day h at.is_opened.calendar is run holds within;
      told = run.told_is;
      ends = refl;
    }

pub book_days : CallsFollow → BooksAreDays
book_days follow ps day h book holds within =
    subst (λ (l : List Piece). IsDay l) (sym book.pieces) (day_of follow ps day h book holds (subst (λ (l : List Piece). IsWithin (rows_text l)) book.pieces within))
