-- What a command answers to a text.
use Rattle.std.specs.Prelude.{◌≡◌, ◌≢◌, ◌⊎◌, ℕ, ◌-◌, ℤ, pos, Bool, true, false, if◌then◌else◌, map, List, [], ◌∷◌, ◌++◌, length, slice_get, Option, Result, Ok, Err, ⊤}
use Rattle.std.specs.Option.{IsSome}
use Rattle.jiff.specs.Words.{IsYmd, read_whole}
use Rattle.jiff.specs.Placed.{IsPosixZone}
use Rattle.jiff.specs.Types.{Date, TimeZone}
use Rattle.gd_zone.specs.Range.{IsGasDay}
use Rattle.gd_zone.specs.Zone.{IsCalendarOf, IsBadZone}
use Rattle.gd_rules.specs.Limits.{classes}
use Rattle.gd_rules.specs.Schedule.{IsAllowed}
use Rattle.gd_rules.specs.Spread.{IsBest}
use Rattle.gd_rules.specs.Tariff.{IsPricedByTariff}
use Rattle.gd_rules.specs.Cut.{excess}
use Rattle.gd_cost.specs.Parts.{class_words}
use Rattle.gd_cost.specs.declared.lex.Lex.{Lex}
use Rattle.gd_cost.specs.declared.pair.Pair.{Pair}
use Rattle.gd_certificate.specs.InForce.{ExplainsTariff}
use Rattle.gd_certificate.specs.Cutting.{Members, side_of}
use Rattle.gd_certificate.specs.Explained.{IsShaped, Cuts, ExplainsCut}
use Rattle.gd_certificate.specs.declared.CertFault.{CertFault}
use Rattle.gd_certificate.specs.declared.cut.CutFault.{CutFault}
use Rattle.gd_question.specs.Posing.{Posed}
use Rattle.gd_schedule.specs.Exact.{Explains}
use Rattle.gd_schedule.specs.declared.Broken.{Broken}
use Rattle.gd_text_part.specs.Texts.{rows_of, IsWithin, IsTooLong}
use Rattle.gd_text_part.specs.declared.row.Row.{Row}
use Rattle.gd_text_part.specs.declared.fault.RowFault.{RowFault}
use Rattle.gd_text_part.specs.declared.fault.TextFault.{TextFault}
use Rattle.gd_text_part.specs.declared.fault.TextFault.TheVariants as fault
use Rattle.gd_text_part.specs.Dates.{YearMonthDay}
use Rattle.gd_text_part.specs.declared.kind.Form.{Form}
use Rattle.gd_text_part.specs.declared.kind.Form.TheVariants as form
use Rattle.gd_replies.specs.Calendars.{calendar_rows}
use Rattle.gd_machine.specs.Day.{Day}
use Rattle.gd_machine.specs.Headline.{Holds}
use Rattle.gd_machine.specs.History.{History}
use Rattle.gd_day.specs.Calls.{Call, calls_of}
use Rattle.gd_day.specs.Opening.{Opened, opened_of}
use Rattle.gd_course.specs.Course.{Runs, RunsInPart}
use Rattle.gd_rounds.specs.Summaries.{summary_of, is_in_order}
use Rattle.gd_rounds.specs.declared.summary.Summary.{Summary}
use Rattle.gd_text.specs.Building.{row_fault}
use Rattle.gd_text.specs.Days.{day_of}
use Rattle.gd_text.specs.Values.{asked_of, question_of}
use Rattle.gd_text.specs.Prices.{Table, ArePrices, prices_of}
use Rattle.gd_text.specs.Members.{members_of}
use Rattle.gd_replies.specs.Replies.{allowed_rows, best_rows, Tells, TellsFault, cut_fault_reply, solved_rows, cut_rows}
use Rattle.gd_replies.specs.declared.reply.Reply.{Reply}
use Rattle.gd_replies.specs.declared.reply.Reply.TheVariants as reply
use Rattle.gasday_part.specs.declared.day.DayFault.{DayFault}
use Rattle.gasday_part.specs.declared.day.DayFault.TheVariants as no
use Rattle.gasday_words.specs.declared.order.Command.{Command}
use Rattle.gasday_words.specs.declared.order.Command.TheVariants as command

-- rows, and the exit status that goes with them
pub record Told : Type 0 where
  pub replies : List Reply
  pub status : ℕ

-- one row, and the exit status
abbrev pub one : Reply → ℕ → Told
one r status = record { replies = r ∷ []; status = status }

-- a fault of the text is told with status 2
abbrev pub fault_answer : TextFault → Told
fault_answer f = one (reply.Fault f) 2

-- what is not good is told in one row, with status 1
abbrev pub refused : Reply → Told
refused r = one r 1

-- The schedule is allowed, and its class totals are told, with status 0. Or it is not, and what is first wrong is told, with
-- status 1.
abbrev pub ChecksAllowed : Posed → List ℕ → Told → Type 0
ChecksAllowed q schedule a =
    (IsAllowed q.asked schedule × (a ≡ record { replies = allowed_rows q.asked schedule; status = 0 }))
    ⊎ ((broken : Broken) × (r : Reply) × Explains q.asked schedule broken × Tells q broken r × (a ≡ refused r))

-- what is asked is checked, or the first refusal is told
abbrev pub ChecksAsked : Result (Posed × List ℕ) TextFault → Told → Type 0
ChecksAsked (Ok asked) a = ChecksAllowed asked.0 asked.1 a
ChecksAsked (Err f) a = a ≡ fault_answer f

-- the price of each element
abbrev pub Tariffs : Type 0
Tariffs = List (Pair (Lex classes) (Lex classes))

-- the schedule is allowed, the prices are right for it, and so it is best
abbrev pub IsShownBest : Posed → List ℕ → List ((ℕ → ℤ) × (ℕ → ℤ)) → Type 0
IsShownBest q schedule prices =
    IsAllowed q.asked schedule × IsPricedByTariff q.asked schedule prices × IsBest q.asked schedule

-- The schedule is best, since the prices are right, and its class totals are told, with status 0. Or something is wrong,
-- and what is first wrong is told, with status 1.
abbrev pub ChecksPrices : Posed → List ℕ → Tariffs → Told → Type 0
ChecksPrices q schedule prices a =
    (IsShownBest q schedule (map class_words prices) × (a ≡ record { replies = best_rows q.asked schedule; status = 0 }))
    ⊎ ((fault : CertFault) × (r : Reply) × ExplainsTariff q.asked schedule (map class_words prices) fault
    × TellsFault q fault r × (a ≡ refused r))

-- the prices that the rows give are checked, or the first refusal is told
abbrev pub ChecksTable : Posed → List ℕ → Result Table TextFault → Told → Type 0
ChecksTable q schedule (Ok table) a = (prices : Tariffs) × ArePrices table prices × ChecksPrices q schedule prices a
ChecksTable q schedule (Err f) a = a ≡ fault_answer f

abbrev pub ChecksBest : List Row → Result (Posed × List ℕ) TextFault → Told → Type 0
ChecksBest rows (Ok asked) a = ChecksTable asked.0 asked.1 (prices_of rows asked.0.pipeline) a
ChecksBest rows (Err f) a = a ≡ fault_answer f

-- the set is a cut by so much, so no schedule is allowed
abbrev pub IsShownCut : Posed → Members → ℕ → Type 0
IsShownCut q m more =
    Cuts q m × (pos more ≡ excess q.asked (side_of q.pipeline m)) × ((schedule : List ℕ) → ¬ (IsAllowed q.asked schedule))

-- No schedule is allowed, since more must leave the set than can, and how much more is told, with status 0. Or the set is
-- no cut, which is told with status 1.
abbrev pub ChecksSet : Posed → Members → Told → Type 0
ChecksSet q m a =
    ((more : ℕ) × IsShownCut q m more × (a ≡ one (reply.Cut more) 0))
    ⊎ ((fault : CutFault) × ExplainsCut q m fault × (a ≡ refused (cut_fault_reply fault)))

-- the set that the rows name is checked, or the first refusal is told
abbrev pub ChecksMembers : Posed → Result Members TextFault → Told → Type 0
ChecksMembers q (Ok m) a = ChecksSet q m a
ChecksMembers q (Err f) a = a ≡ fault_answer f

abbrev pub ChecksCut : List Row → Result Posed TextFault → Told → Type 0
ChecksCut rows (Ok q) a = ChecksMembers q (members_of rows q.pipeline) a
ChecksCut rows (Err f) a = a ≡ fault_answer f

-- A schedule that is best, since the prices are right, is told with the prices, with status 0. Or a cut is told, with
-- status 1: no schedule is allowed, since more must leave the set than can.
abbrev pub Solves : Posed → Told → Type 0
Solves q a =
    ((schedule : List ℕ) × (prices : List ((ℕ → ℤ) × (ℕ → ℤ))) × IsShownBest q schedule prices
    × (a ≡ record { replies = solved_rows q schedule prices; status = 0 }))
    ⊎ ((cut : Members) × (more : ℕ) × IsShaped q.pipeline cut × IsShownCut q cut more
    × (a ≡ record { replies = cut_rows q.pipeline cut more; status = 1 }))

-- what is asked is solved, or the first refusal is told
abbrev pub SolvesAsked : Result Posed TextFault → Told → Type 0
SolvesAsked (Ok q) a = Solves q a
SolvesAsked (Err f) a = a ≡ fault_answer f

-- The moments of the gas day of a date, by the clock of the zone whose POSIX rule a text is.
abbrev pub IsCalendarIn : YearMonthDay → List ℕ → List ℕ → Type 0
IsCalendarIn date text moments =
    (day : Date) × IsYmd (pos date.year) (pos date.month) (pos date.day) day × IsGasDay day
    × ((zone : TimeZone) × IsPosixZone text zone × IsCalendarOf zone day moments)

-- The date is none of the gas days.
abbrev pub IsNoGasDay : YearMonthDay → Type 0
IsNoGasDay date = (day : Date) × IsYmd (pos date.year) (pos date.month) (pos date.day) day × ¬ (IsGasDay day)

-- The text is no POSIX rule, or its zone gives the gas day no calendar.
abbrev pub HasBadZone : YearMonthDay → List ℕ → Type 0
HasBadZone date text =
    (day : Date) × IsYmd (pos date.year) (pos date.month) (pos date.day) day × IsGasDay day
    × (¬ (IsSome (read_whole text)) ⊎ ((zone : TimeZone) × IsPosixZone text zone × IsBadZone zone day))

-- Why a date has no calendar in a zone.
abbrev pub ExplainsDay : YearMonthDay → List ℕ → DayFault → Type 0
ExplainsDay date text no.OutOfRange = IsNoGasDay date
ExplainsDay date text no.BadZone = HasBadZone date text
ExplainsDay date text no.OutOfMemory = ⊤

-- the row that tells it; want of memory has none
abbrev pub no_calendar : DayFault → Reply
no_calendar no.OutOfRange = reply.OutOfRange
no_calendar f = reply.BadZone

-- The gas day of a date is told by its calendar, or that it has none.
abbrev pub TellsDate : (List ℕ → Told → Type 0) → YearMonthDay → List ℕ → Told → Type 0
TellsDate tells date text a =
    ((moments : List ℕ) × IsCalendarIn date text moments × tells moments a)
    ⊎ ((f : DayFault) × (f ≢ no.OutOfMemory) × ExplainsDay date text f × (a ≡ refused (no_calendar f)))

-- the moments of a calendar, with status 0
abbrev pub TellsMoments : List ℕ → Told → Type 0
TellsMoments moments a = a ≡ record { replies = calendar_rows moments; status = 0 }

-- the calendar of a text's gas day is told, or that the text has none
abbrev pub TellsCalendar : Result (YearMonthDay × List ℕ) TextFault → Told → Type 0
TellsCalendar (Ok asked) a = TellsDate TellsMoments asked.0 asked.1 a
TellsCalendar (Err f) a = a ≡ fault_answer f

-- What is told last where memory ran out.
abbrev pub no_memory : Reply
no_memory = reply.Fault fault.OutOfMemory

-- The exit status of a course that was told to its end: 0, or of a strict one 1 where it didn't come to what is in order.
abbrev pub course_status : Bool → Summary → ℕ
course_status false s = 0
course_status true s = if is_in_order s then 0 else 1

-- All calls are made on a book of that day, of whose history the headline holds, and what they give is told, with the status of a
-- course that came to that. Or memory runs out, and what the first calls give is told, and that, with status 2.
abbrev pub TellsCourse : Bool → Day → List Call → Told → Type 0
TellsCourse strict day calls a =
    ((rows : List Reply) × (after : History) × Runs day [] calls rows after × Holds day after
    × (a ≡ record { replies = rows; status = course_status strict (summary_of day.moments after rows) }))
    ⊎ ((rows : List Reply) × RunsInPart day [] calls rows
    × (a ≡ record { replies = rows ++ no_memory ∷ []; status = 2 }))

-- What a book is opened with, in a calendar of these moments.
abbrev pub day_in : Opened → List ℕ → Day
day_in o moments = record { name = o.book; holdings = o.holdings; moments = moments; carry = o.carry }

-- the course of a text's gas day, or the first refusal
abbrev pub TellsDay : Bool → List Row → Result Opened TextFault → Told → Type 0
TellsDay strict rows (Ok o) a = TellsDate (λ moments. TellsCourse strict (day_in o moments) (calls_of rows)) o.date o.zone a
TellsDay strict rows (Err f) a = a ≡ fault_answer f

-- how a command's text is read
abbrev pub form_of : Command → Form
form_of command.CheckAllowed = form.CheckAllowed
form_of command.CheckBest = form.CheckBest
form_of command.CheckCut = form.CheckCut
form_of command.Solve = form.Solve
form_of command.Calendar = form.Calendar
form_of command.Day = form.Day
form_of command.StrictDay = form.Day

-- what a command answers to the rows of its text
abbrev pub AnswersRows : Command → List Row → Told → Type 0
AnswersRows command.CheckAllowed rows a = ChecksAsked (asked_of rows) a
AnswersRows command.CheckBest rows a = ChecksBest rows (asked_of rows) a
AnswersRows command.CheckCut rows a = ChecksCut rows (question_of rows) a
AnswersRows command.Solve rows a = SolvesAsked (question_of rows) a
AnswersRows command.Calendar rows a = TellsCalendar (day_of rows) a
AnswersRows command.Day rows a = TellsDay false rows (opened_of rows) a
AnswersRows command.StrictDay rows a = TellsDay true rows (opened_of rows) a

-- the rows are answered, or the first fault is told
abbrev pub AnswersText : (List Row → Told → Type 0) → Result (List Row) RowFault → Told → Type 0
AnswersText answers (Ok rows) a = answers rows a
AnswersText answers (Err f) a = a ≡ fault_answer (row_fault f)

-- What is answered to a text of this form in memory, where rows are answered so: what its rows say, where it is within its
-- limits, or that it is too long.
abbrev pub BytesAnswered : Form → (List Row → Told → Type 0) → List ℕ → Told → Type 0
BytesAnswered form answers text a =
    (IsWithin text × AnswersText answers (rows_of form text) a)
    ⊎ (IsTooLong text × (a ≡ fault_answer fault.TooLong))

abbrev pub AnswersBytes : Command → List ℕ → Told → Type 0
AnswersBytes k text a = BytesAnswered (form_of k) (AnswersRows k) text a

-- the row with which an answer ends
abbrev pub last_of : List Reply → Option Reply
last_of rows = slice_get rows (length rows - 1)
