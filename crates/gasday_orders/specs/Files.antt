-- What is done with the file of a book, and what is written of it.
use Rattle.std.specs.Prelude.{◌≡◌, ◌≤◌, ℕ, List, Option, Some, None, IfSome, Result, Ok, Err, ⊤}
use Rattle.sqlite_trees.specs.declared.store.Store.{Ghosts}
use Rattle.sqlite.specs.Held.{Held, state}
use Rattle.sqlite.specs.State.{HasCleanDisk}
use Rattle.sqlite.specs.declared.error.Error.{Error}
use Rattle.sqlite.specs.declared.error.Error.TheVariants.{SqliteFailure}
use Rattle.sqlite.specs.declared.error.ErrorCode.TheVariants.{DatabaseBusy}
use Rattle.gd_replies.specs.declared.reply.Reply.{Reply}
use Rattle.gd_replies.specs.declared.reply.Reply.TheVariants as reply
use Rattle.gasday_part.specs.Answers.{one}
use Rattle.gasday_part.specs.Output.{WritesTold}
use Rattle.gasday_part.specs.declared.inquiry.Inquiry.{Inquiry}
use Rattle.gasday_part.specs.declared.inquiry.Inquiry.TheVariants as inquiry
use Rattle.gasday_words.specs.Meaning.{most_number}
use Rattle.gasday_words.specs.Ordered.{Ordered, Question, Carry}
use Rattle.gasday_live.specs.Asked.{AsksBook}
use Rattle.gasday_live.specs.Runs.{Runs}
use Rattle.gasday_live.specs.Texts.{Prints}

-- this is what an order asks of a book
abbrev pub AsksFor : Ordered → Inquiry → Type 0
AsksFor (Question file cycle round) asked = asked ≡ inquiry.Round cycle round
AsksFor (Carry file) asked = asked ≡ inquiry.Carried
AsksFor order asked = ⊥

-- the order asks something, by the number of a cycle, and of a round where it names one
abbrev pub IsInquiry : Ordered → Type 0
IsInquiry (Question file cycle round) = (1 ≤ cycle) × (cycle ≤ 5) × IfSome round (λ n. (1 ≤ n) × (n ≤ most_number))
IsInquiry (Carry file) = ⊤
IsInquiry order = ⊥

-- the row of a file that can't be opened, for this error: that another process has it, or that it can't be
abbrev pub unopened_row : Error → Reply
unopened_row (SqliteFailure DatabaseBusy) = reply.Busy
unopened_row error = reply.Store

-- that row is told
abbrev pub TellsUnopened : Option (List ℕ) → Option (List ℕ) → ℕ → Error → Type 0
TellsUnopened before behind status error = WritesTold (λ a. a ≡ one (unopened_row error) 2) before behind status

-- What is done on a file that the opener gives, where its store is clean at the end, and so was when it was opened; or that it can't
-- be opened.
abbrev pub DoesOn : {S : Type 0} → Ghosts S → (Held S → Held S → Type 0) → (Error → Type 0) → Result (Held S) Error → Option (Held S) → Type 0
DoesOn g does unopened (Ok opened) (Some left) = HasCleanDisk (state g left) → HasCleanDisk (state g opened) × does opened left
DoesOn g does unopened (Ok opened) None = ⊥
DoesOn g does unopened (Err error) left = (left ≡ None) × unopened error

module _ {S : Type 0} (g : Ghosts S) (gives : Result (Held S) Error → Type 0) where
  -- lines of the input are served on the book of the file that the opener gives
  abbrev pub ServesFile : Option (List ℕ) → Option (Held S) → Option (List ℕ) → Option (List ℕ) → ℕ → Type 0
  ServesFile input left before behind status =
      (opened : Result (Held S) Error) × gives opened
      × DoesOn g (λ old new. Runs input (state g old) (state g new) before behind status) (TellsUnopened before behind status) opened left

  -- the text that this file keeps is printed
  abbrev pub PrintsFile : Option (Held S) → Option (List ℕ) → Option (List ℕ) → ℕ → Type 0
  PrintsFile left before behind status =
      (opened : Result (Held S) Error) × gives opened
      × DoesOn g (λ old new. Prints (state g old) before behind status) (TellsUnopened before behind status) opened left

  -- what is asked of the book that this file keeps is written
  abbrev pub AsksFile : Inquiry → Option (Held S) → Option (List ℕ) → Option (List ℕ) → ℕ → Type 0
  AsksFile asked left before behind status =
      (opened : Result (Held S) Error) × gives opened
      × DoesOn g (λ old new. AsksBook (state g old) asked before behind status) (TellsUnopened before behind status) opened left
