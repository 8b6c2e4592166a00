-- What the text of an office is answered.
use Rattle.std.specs.Prelude.{◌≡◌, ◌≢◌, ◌⊎◌, ℕ, ◌+◌, ◌==◌, ◌&&◌, ◌||◌, Bool, not, List, [], ◌∷◌, ◌++◌, length, map, take, slice_get, Some, Result, Ok, Err, if◌then◌else◌}
use Rattle.std.specs.List.{All, AllZip, list_all}
use Rattle.gd_day.specs.Opening.{Opened}
use Rattle.gd_machine.specs.Day.{Day}
use Rattle.gd_machine.specs.Headline.{IsHistoryOf}
use Rattle.gd_machine.specs.History.{History}
use Rattle.gd_office_part.specs.Days.{IsDayOf}
use Rattle.gasday_office.specs.Calls.{seen_phase, asked_phase}
use Rattle.gasday_office.specs.Days.{days_of}
use Rattle.gasday_office.specs.Phases.{phases_of}
use Rattle.gd_office_part.specs.declared.threads.Phase.{Phase}
use Rattle.gd_office_run.specs.RunRows.{TellsRun, EndsEarly}
use Rattle.gd_replies.specs.declared.reply.Reply.{Reply}
use Rattle.gd_replies.specs.declared.reply.Reply.TheVariants as reply
use Rattle.gd_rounds.specs.Summaries as came
use Rattle.gd_rounds.specs.declared.summary.Summary.{Summary}
use Rattle.gd_text_part.specs.declared.kind.Form.TheVariants as form
use Rattle.gd_text_part.specs.declared.fault.TextFault.{TextFault}
use Rattle.gd_text_part.specs.declared.row.Row.{Row}
use Rattle.gasday_part.specs.Answers.{Told, fault_answer, refused, no_calendar, no_memory, day_in, IsCalendarIn, ExplainsDay, BytesAnswered}
use Rattle.gasday_part.specs.declared.day.DayFault.{DayFault}
use Rattle.gasday_part.specs.declared.day.DayFault.TheVariants as no

-- These are the moments of the gas day in its zone.
abbrev pub IsCalendarFor : Opened → List ℕ → Type 0
IsCalendarFor d moments = IsCalendarIn d.date d.zone moments

-- The gas day has a calendar in its zone.
abbrev pub HasCalendar : Opened → Type 0
HasCalendar d = (moments : List ℕ) × IsCalendarFor d moments

-- The opening values of a book: what its block says, in a calendar of its gas day.
abbrev pub IsOpenedWith : Opened → Day → Type 0
IsOpenedWith d day = (moments : List ℕ) × IsCalendarFor d moments × (day ≡ day_in d moments)

-- The first gas day that has no calendar has none for this reason; or memory ran out before that was known.
abbrev pub LacksCalendar : List Opened → DayFault → Type 0
LacksCalendar days f =
    (f ≡ no.OutOfMemory)
    ⊎ ((k : ℕ) × (d : Opened) × (slice_get days k ≡ Some d) × All HasCalendar (take k days) × ExplainsDay d.date d.zone f)

-- A row that ends a run early: memory ran out, a thread could not be started, or a session could not be opened.
abbrev pub EndsRun : Reply → Type 0
EndsRun r = (r ≡ no_memory) ⊎ (r ≡ reply.NoThread) ⊎ (r ≡ reply.TooMany)

-- the book of the slot of this number has these opening values and this history
abbrev pub IsEnd : List Day → ℕ → Day × History → Type 0
IsEnd books slot p = IsDayOf books slot p.0 × IsHistoryOf p.0 p.1

-- what a gas day came to, by its history alone
abbrev pub day_summary : Day × History → Summary
day_summary p = came.summary_of p.0.moments p.1 []

-- Each slot's gas day came to what is in order, by some history of its own book, and no row tells that a call was refused; or it is not so.
pub record IsOrder (books : List Day) (slots : ℕ) (rows : List Reply) (good : Bool) : Type 0 where
  pub ends : List (Day × History)
  pub count : length ends ≡ slots
  pub own : (k : ℕ) (p : Day × History) → slice_get ends k ≡ Some p → IsEnd books (k + 1) p
  pub is : good ≡ (came.refused rows == 0) && list_all (λ p. came.is_in_order (day_summary p)) ends

-- 0 where all slots are reconciled, and, of a strict office, the run came to what is in order
abbrev pub run_status : Bool → Bool → Bool → ℕ
run_status strict reconciled good = if reconciled && (good || not strict) then 0 else 1

-- A run of these phases on books with these opening values is told, and how each slot ends, with the status of that. Or it ended
-- early, and a run of the first phases is told, and why, with status 2.
abbrev pub TellsPhases : Bool → List Day → ℕ → List Phase → Told → Type 0
TellsPhases strict books slots phases a =
    ((rows : List Reply) × (reconciled good : Bool) × TellsRun books slots phases rows reconciled × IsOrder books slots rows good
    × (a ≡ record { replies = rows; status = run_status strict reconciled good }))
    ⊎ ((rows : List Reply) × (last : Reply) × EndsEarly books slots phases rows × EndsRun last
    × (a ≡ record { replies = rows ++ last ∷ []; status = 2 }))

-- Where each gas day has a calendar, a run of the phases that the rows ask for, each call on the pipeline of its slot, and the
-- book of each slot opened with what its block says; else the first gas day that has none is told.
abbrev pub TellsDays : Bool → List Row → List Opened → Told → Type 0
TellsDays strict rows days a =
    ((books : List Day) × AllZip IsOpenedWith days books
    × ((phases : List Phase) × (map seen_phase phases ≡ map (asked_phase (map (λ d. d.holdings.pipeline) days)) (phases_of rows))
    × TellsPhases strict books (length days) phases a))
    ⊎ ((f : DayFault) × (f ≢ no.OutOfMemory) × LacksCalendar days f × (a ≡ refused (no_calendar f)))

abbrev pub AnswersDays : Bool → List Row → Result (List Opened) TextFault → Told → Type 0
AnswersDays strict rows (Ok days) a = TellsDays strict rows days a
AnswersDays strict rows (Err f) a = a ≡ fault_answer f

-- What the rows of an office's text are answered, a strict one or any: a run of its gas days, or their first refusal.
abbrev pub AnswersOffice : Bool → List Row → Told → Type 0
AnswersOffice strict rows a = AnswersDays strict rows (days_of rows) a

-- What the bytes of an office's text are answered.
abbrev pub AnswersOfficeBytes : Bool → List ℕ → Told → Type 0
AnswersOfficeBytes strict text a = BytesAnswered form.Office (AnswersOffice strict) text a
