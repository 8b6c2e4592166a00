-- What a run with an archive answers: of the archive that the opener gives, as it is left.
use Rattle.std.specs.Prelude.{◌≡◌, ◌≢◌, ◌⊎◌, ℕ, max, Bool, List, [], ◌∷◌, ◌++◌, Option, Some, None, Result, Ok, Err, IfOk}
use Rattle.sqlite_trees.specs.declared.store.Store.{Ghosts}
use Rattle.sqlite.specs.Held.{Held, state}
use Rattle.sqlite.specs.State.{HasCleanDisk}
use Rattle.sqlite.specs.declared.error.Error.{Error}
use Rattle.gd_archive.specs.Calls as archive
use Rattle.gd_archive.specs.declared.fault.AuditFault.{AuditFault}
use Rattle.gd_archive.specs.declared.finding.Finding.{Finding}
use Rattle.gd_archive_store.specs.Calls.{Makes}
use Rattle.gd_archive_store.specs.declared.fault.StoreFault.{StoreFault}
use Rattle.gd_archive_store.specs.declared.fault.MigrateFault.{MigrateFault}
use Rattle.gd_course.specs.Course.{Runs, RunsInPart}
use Rattle.gd_day.specs.Calls.{Call, calls_of}
use Rattle.gd_day.specs.Opening.{Opened, opened_of}
use Rattle.gd_machine.specs.Day.{Day}
use Rattle.gd_machine.specs.Headline.{Holds}
use Rattle.gd_machine.specs.History.{History}
use Rattle.gd_replies.specs.declared.reply.Reply.{Reply}
use Rattle.gd_rounds.specs.Summaries.{summary_of}
use Rattle.gd_text_part.specs.Texts.{rows_of, IsWithin, IsTooLong}
use Rattle.gd_text_part.specs.declared.fault.RowFault.{RowFault}
use Rattle.gd_text_part.specs.declared.fault.TextFault.{TextFault}
use Rattle.gd_text_part.specs.declared.fault.TextFault.TheVariants as fault
use Rattle.gd_text_part.specs.declared.kind.Form.TheVariants as form
use Rattle.gd_text_part.specs.declared.row.Row.{Row}
use Rattle.gd_text.specs.Building.{row_fault}
use Rattle.gasday_part.specs.AnswerSeen.{answer_seen}
use Rattle.gasday_part.specs.Answers.{Told, one, refused, fault_answer, no_memory, no_calendar, course_status, day_in, IsCalendarIn, ExplainsDay}
use Rattle.gasday_part.specs.declared.answer.Answer.{Answer}
use Rattle.gasday_part.specs.declared.day.DayFault.{DayFault}
use Rattle.gasday_part.specs.declared.day.DayFault.TheVariants as no
use Rattle.gasday_archive.specs.Archives.{no_store, audited, each_told, migrated, store_fault}
use Rattle.gasday_archive.specs.Keeping.{KeepsPublished, all_keep_rows, keep_status}
use Rattle.gasday_archive.specs.declared.keeps.KeepAnswer.{KeepAnswer}

-- ---- an archive that is open

module _ {S : Type 0} (g : Ghosts S) where
  -- it is audited, and that is told
  abbrev pub TellsAudit : Held S → Held S → Told → Type 0
  TellsAudit old new a =
      (found : Result ℕ AuditFault) × archive.Audits (state g old) (state g new) found × (a ≡ audited found)

  -- what is found of each of its postings is told, or why it can't be read
  abbrev pub TellsEach : Held S → Held S → Told → Type 0
  TellsEach old new a =
      ((findings : List Finding) × archive.AuditsEach (state g old) (state g new) findings × (a ≡ each_told findings))
      ⊎ ((f : StoreFault) × archive.AuditsNone (state g old) (state g new) f × (a ≡ store_fault f))

  -- it is migrated, and that is told
  abbrev pub TellsMigration : Held S → Held S → Told → Type 0
  TellsMigration old new a =
      (carried : Result ℕ MigrateFault) × archive.Migrates (state g old) (state g new) carried × (a ≡ migrated carried)

-- All calls are made on a book of that day, of whose history the headline holds, and then what was published is kept, with these rows
-- and this status: the higher one of what the gas day came to and of what was kept.
pub record KeepsRun {S : Type 0} (g : Ghosts S) (strict : Bool) (day : Day) (calls : List Call) (old new : Held S) (told : List Reply) (status : ℕ) : Type 0 where
  pub rows : List Reply
  pub after : History
  pub answers : List KeepAnswer
  pub runs : Runs day [] calls rows after
  pub holds : Holds day after
  pub keeps : KeepsPublished g day after old answers new
  pub is : told ≡ rows ++ all_keep_rows answers
  pub ends : status ≡ max (keep_status strict answers) (course_status strict (summary_of day.moments after rows))

module _ {S : Type 0} (g : Ghosts S) (strict : Bool) where
  -- All calls are made on a book of that day, then what was published is kept, and both are told. Or memory runs out before
  -- anything is kept, and what the first calls give is told, and that, with status 2.
  abbrev pub TellsKept : Day → List Call → Held S → Held S → Told → Type 0
  TellsKept day calls old new a =
      KeepsRun g strict day calls old new a.replies a.status
      ⊎ ((rows : List Reply) × RunsInPart day [] calls rows × (new ≡ old)
      × (a ≡ record { replies = rows ++ no_memory ∷ []; status = 2 }))

  -- The archive is made, and then the calls are; or it can't be made, and no call is.
  abbrev pub TellsMade : Day → List Call → Held S → Held S → Told → Type 0
  TellsMade day calls old new a =
      ((made : Held S) × Makes (state g old) (state g made) (Ok tt) × TellsKept day calls made new a)
      ⊎ ((f : StoreFault) × Makes (state g old) (state g new) (Err f) × (a ≡ store_fault f))

-- ---- an archive that the opener gives

module _ {S : Type 0} (g : Ghosts S) where
  -- What is told of what the opener gave: how its archive is used, where its store is clean at the end, and so was when it was opened;
  -- or that it can't be opened.
  abbrev pub TellsOf : (Held S → Held S → Told → Type 0) → Result (Held S) Error → Option (Held S) → Told → Type 0
  TellsOf tells (Ok opened) (Some left) a = HasCleanDisk (state g left) → HasCleanDisk (state g opened) × tells opened left a
  TellsOf tells (Ok opened) None a = ⊥
  TellsOf tells (Err e) left a = (left ≡ None) × (a ≡ no_store)

  module _ (gives : Result (Held S) Error → Type 0) where
    -- the archive that the opener gives is used so
    abbrev pub TellsOpened : (Held S → Held S → Told → Type 0) → Option (Held S) → Told → Type 0
    TellsOpened tells left a = (opened : Result (Held S) Error) × gives opened × TellsOf tells opened left a

    -- The gas day of a date, a strict one or any, is told by its course, or that it has no calendar, and then no archive comes back.
    abbrev pub TellsDate : Bool → List Row → Opened → Option (Held S) → Told → Type 0
    TellsDate strict rows o left a =
        ((moments : List ℕ) × IsCalendarIn o.date o.zone moments
        × TellsOpened (TellsMade g strict (day_in o moments) (calls_of rows)) left a)
        ⊎ ((f : DayFault) × (f ≢ no.OutOfMemory) × ExplainsDay o.date o.zone f × (left ≡ None) × (a ≡ refused (no_calendar f)))

    -- the course of a text's gas day, or the first refusal, and then no archive comes back
    abbrev pub TellsDay : Bool → List Row → Result Opened TextFault → Option (Held S) → Told → Type 0
    TellsDay strict rows (Ok o) left a = TellsDate strict rows o left a
    TellsDay strict rows (Err f) left a = (left ≡ None) × (a ≡ fault_answer f)

    -- the day of the rows, or their first fault
    abbrev pub TellsRows : Bool → Result (List Row) RowFault → Option (Held S) → Told → Type 0
    TellsRows strict (Ok rows) left a = TellsDay strict rows (opened_of rows) left a
    TellsRows strict (Err f) left a = (left ≡ None) × (a ≡ fault_answer (row_fault f))

    -- The day of a text in memory, where it is within its limits. Or that it is too long, and then no archive comes back.
    abbrev pub TellsBytes : Bool → List ℕ → Option (Held S) → Told → Type 0
    TellsBytes strict text left a =
        (IsWithin text × TellsRows strict (rows_of form.Day text) left a)
        ⊎ (IsTooLong text × (left ≡ None) × (a ≡ fault_answer fault.TooLong))

-- that, or that memory ran out, and then no archive comes back
abbrev pub OrNoMemory : {S : Type 0} → (Option (Held S) → Told → Type 0) → Option (Held S) → Told → Type 0
OrNoMemory tells left a = tells left a ⊎ ((left ≡ None) × (a ≡ one no_memory 2))

-- what is told, where there was memory for it
pub record Tells {E : Type 0} (P : Told → Type 0) (r : Result Answer E) : Type 0 where
  pub told : Told
  pub means : P told
  pub is : IfOk r (λ a. answer_seen a ≡ told)
