-- What is printed where something is asked of a gas day's book.
use Rattle.std.specs.Prelude.{◌≡◌, ◌≢◌, ◌⊎◌, ℕ, List, [], ◌∷◌, take, Option, Ok}
use Rattle.std.specs.Io.KnownBytes.{Appends}
use Rattle.gd_book.specs.Kept.{Kept}
use Rattle.gd_machine.specs.Day.{Day}
use Rattle.gd_machine.specs.Headline.{Holds}
use Rattle.gd_machine.specs.History.{History}
use Rattle.gd_course.specs.Course.{Runs}
use Rattle.gd_day.specs.Calls.{Call, calls_of}
use Rattle.gd_replies.specs.Lines.{lines_of}
use Rattle.gd_replies.specs.declared.reply.Reply.{Reply}
use Rattle.gd_replies.specs.declared.reply.Reply.TheVariants as reply
use Rattle.gd_rounds.specs.Carried.{carry_rows}
use Rattle.gd_rounds.specs.Rounds.{SaysRound, WasNeverFrozen}
use Rattle.gd_text_part.specs.Texts.{IsWithin, rows_of}
use Rattle.gd_text_part.specs.declared.kind.Form.TheVariants as form
use Rattle.gd_text_part.specs.declared.row.Row.{Row}
use Rattle.gasday_words.specs.declared.order.Command.TheVariants as command
use Rattle.gasday_part.specs.Answers.{AnswersBytes, AnswersRows, Told, no_memory, one}
use Rattle.gasday_part.specs.OpenedBooks.{OpensBook}
use Rattle.gasday_part.specs.Output.{Written}
use Rattle.gasday_part.specs.declared.inquiry.Inquiry.{Inquiry}
use Rattle.gasday_part.specs.declared.inquiry.Inquiry.TheVariants as inquiry

-- ---- what is printed

-- the text of the round, with status 0; or that the book was never frozen in such a round, with status 1
abbrev pub PrintsRound : Day → History → ℕ → Option ℕ → List ℕ → ℕ → Type 0
PrintsRound day h cycle round text status =
    (SaysRound day h cycle round text × (status ≡ 0))
    ⊎ (WasNeverFrozen h cycle round × (text ≡ lines_of (reply.NeverFrozen ∷ [])) × (status ≡ 1))

-- what each line is carried over with, with status 0
abbrev pub PrintsCarried : Day → History → List ℕ → ℕ → Type 0
PrintsCarried day h text status = (text ≡ lines_of (carry_rows day h)) × (status ≡ 0)

-- what is printed of a book of this day, with this history
abbrev pub PrintsInquiry : Day → History → Inquiry → List ℕ → ℕ → Type 0
PrintsInquiry day h (inquiry.Round cycle round) text status = PrintsRound day h cycle round text status
PrintsInquiry day h inquiry.Carried text status = PrintsCarried day h text status

-- the history is that behind these calls on a new book, and the headline holds of it
abbrev pub IsRun : Day → List Call → History → Type 0
IsRun day calls h = (replies : List Reply) × Runs day [] calls replies h × Holds day h

-- what is printed of a new book behind these calls
abbrev pub PrintsBehind : Day → List Call → Inquiry → List ℕ → ℕ → Type 0
PrintsBehind day calls asked text status = (h : History) × IsRun day calls h × PrintsInquiry day h asked text status

-- ---- what is written

-- All of a text was written, with the status that goes with it. Or the writer failed, and what was written are bytes at its front.
abbrev pub WritesText : List ℕ → ℕ → Option (List ℕ) → Option (List ℕ) → ℕ → Type 0
WritesText text printed before behind status =
    (Appends before behind text × (status ≡ printed)) ⊎ ((n : ℕ) × Appends before behind (take n text) × (status ≡ 2))

-- what was written where memory ran out before anything was
abbrev pub WritesNoMemory : Option (List ℕ) → Option (List ℕ) → ℕ → Type 0
WritesNoMemory before behind status = Written before behind status (one no_memory 2)

-- what is printed was written; or that memory ran out
abbrev pub Writes : (List ℕ → ℕ → Type 0) → Option (List ℕ) → Option (List ℕ) → ℕ → Type 0
Writes prints before behind status =
    ((text : List ℕ) × (printed : ℕ) × prints text printed × WritesText text printed before behind status)
    ⊎ WritesNoMemory before behind status

-- what tells that there is no book was written, as `day` tells it, and not with status 0; or that memory ran out
abbrev pub TellsFaulty : (Told → Type 0) → Option (List ℕ) → Option (List ℕ) → ℕ → Type 0
TellsFaulty tells before behind status =
    ((a : Told) × tells a × (a.status ≢ 0) × Written before behind status a) ⊎ WritesNoMemory before behind status

-- What is asked of the book that rows open, behind their calls; or what `day` tells of rows that open none.
abbrev pub AsksRows : List Row → Inquiry → Option (List ℕ) → Option (List ℕ) → ℕ → Type 0
AsksRows rows asked before behind status =
    ((book : Kept) × OpensBook rows book × Writes (PrintsBehind book.day (calls_of rows) asked) before behind status)
    ⊎ TellsFaulty (AnswersRows command.Day rows) before behind status

-- The same of a text that has rows; or what `day` tells of one that has none.
abbrev pub AsksText : List ℕ → Inquiry → Option (List ℕ) → Option (List ℕ) → ℕ → Type 0
AsksText text asked before behind status =
    ((rows : List Row) × IsWithin text × (rows_of form.Day text ≡ Ok rows) × AsksRows rows asked before behind status)
    ⊎ TellsFaulty (AnswersBytes command.Day text) before behind status
