-- What an order is answered, the office among them, what is written of it, and what the run of an order comes to.
use Rattle.std.specs.Prelude.{◌≡◌, ◌⊎◌, ⊤, ℕ, Bool, true, false, List, Option, None, Result}
use Rattle.sqlite_disk.specs.declared.Disk as disk
use Rattle.sqlite_trees.specs.declared.store.Store.{Ghosts}
use Rattle.sqlite_store.specs.declared.store.FileStore.{FileStore}
use Rattle.sqlite.specs.Files.{over_files}
use Rattle.sqlite.specs.Held.{Held}
use Rattle.sqlite.specs.declared.error.Error.{Error}
use Rattle.gasday_words.specs.Ordered.{Ordered, Audit, AuditEach, BookText, Carry, CheckAnswer, LiveDay, Office, Question}
use Rattle.gasday_part.specs.Answers.{Told}
use Rattle.gasday_part.specs.Output.{WritesTold}
use Rattle.gasday_archive.specs.Orders.{Answers, IsAnswered}
use Rattle.gasday_archive.specs.Runs.{OrNoMemory, TellsOpened}
use Rattle.gasday_files.specs.Closing.{Exits}
use Rattle.gasday_files.specs.Refusals.{Refuses}
use Rattle.gasday_files.specs.Texts.{IsTextOf, IsUnread, ReadsText}
use Rattle.gasday_files.specs.declared.input.Text.{Text as Joined}
use Rattle.gasday_orders.specs.Audited.{TellsAudit}
use Rattle.gasday_orders.specs.Files.{PrintsFile}
use Rattle.gasday_orders.specs.Orders.{Asks, Checks, Serves}
use Rattle.gasday_office.specs.Offices.{AnswersOfficeBytes}

-- an office's answer to the bytes of a text, a strict one's or any; no archive comes back
abbrev pub AnswersSlots : {S : Type 0} → Bool → List ℕ → Option (Held S) → Told → Type 0
AnswersSlots strict text left a = (left ≡ None) × AnswersOfficeBytes strict text a

-- an order that is carried out over the bytes of one text or of none
abbrev pub IsCarriedOut : Ordered → Type 0
IsCarriedOut (Audit file) = ⊤
IsCarriedOut (AuditEach file) = ⊤
IsCarriedOut (Office strict) = ⊤
IsCarriedOut order = IsAnswered order

-- What an order is answered: of an office what its text is answered, or that memory ran out before; of an audit, which reads none,
-- what is told of the file that the opener gives; of each other order what that is.
abbrev pub AnswersOrder : {S : Type 0} → Ghosts S → (Result (Held S) Error → Type 0) → Ordered → List ℕ → Option (Held S) → Told → Type 0
AnswersOrder g gives (Office strict) text left a = OrNoMemory (AnswersSlots strict text) left a
AnswersOrder g gives (Audit file) text left a = TellsOpened g gives (TellsAudit g false) left a
AnswersOrder g gives (AuditEach file) text left a = TellsOpened g gives (TellsAudit g true) left a
AnswersOrder g gives order text left a = Answers g gives order text left a

-- What is written of an order over these bytes, and the exit status: what it is answered, and nothing else.
abbrev pub CarriesOut : {S : Type 0} → Ghosts S → (Result (Held S) Error → Type 0) → Ordered → List ℕ → Option (Held S) → Option (List ℕ) → Option (List ℕ) → ℕ → Type 0
CarriesOut g gives order text left old new status = WritesTold (AnswersOrder g gives order text left) old new status

module _ {S : Type 0} (g : Ghosts S) (gives : Result (Held S) Error → Type 0) (input : Option (List ℕ)) (names : List (List ℕ)) where
  -- what is written of an order over the bytes of its text: of the input, or of the files of these names
  abbrev pub CarriesText : Ordered → Option (Held S) → Option (List ℕ) → Option (List ℕ) → ℕ → Type 0
  CarriesText order left old new status =
      (text : Joined) × IsTextOf input order names text × CarriesOut g gives order text.bytes.items left old new status

  -- What comes of an order on the file that the opener gives: of one that serves, prints, asks or checks what that is, and of each
  -- other order what is written over its text; or that can't be read.
  abbrev pub CarriesRequest : Ordered → Option (Held S) → Option (List ℕ) → Option (List ℕ) → ℕ → Type 0
  CarriesRequest CheckAnswer left old new status = Checks names left old new status
  CarriesRequest (LiveDay file) left old new status = Serves g gives input names left old new status
  CarriesRequest (BookText file) left old new status = PrintsFile g gives left old new status
  CarriesRequest (Question file cycle round) left old new status = Asks g gives (Question file cycle round) file left old new status
  CarriesRequest (Carry file) left old new status = Asks g gives (Carry file) file left old new status
  CarriesRequest order left old new status = CarriesText order left old new status ⊎ (ReadsText order × Refuses (IsUnread input names) left old new status)

module _ {D : Type 0} (g : disk.Ghosts D) (gives : Result (Held (FileStore D g)) Error → Type 0) (input : Option (List ℕ)) (names : List (List ℕ)) where
  -- An order on the file of a disk that the opener gives: what comes of it, and how that file is closed, by which it exits.
  abbrev pub RunsOn : Ordered → Option (List ℕ) → Option (List ℕ) → ℕ → Type 0
  RunsOn order old new exit =
      (left : Option (Held (FileStore D g))) × (status : ℕ)
      × CarriesRequest over_files gives input names order left old new status × Exits g order left status exit
