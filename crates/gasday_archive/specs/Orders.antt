-- What an order is answered.
use Rattle.std.specs.Prelude.{◌≡◌, ⊤, ℕ, List, Option, None, Result}
use Rattle.sqlite_trees.specs.declared.store.Store.{Ghosts}
use Rattle.sqlite.specs.Held.{Held}
use Rattle.sqlite.specs.declared.error.Error.{Error}
use Rattle.gasday_words.specs.Ordered.{Ordered, Text, ArchivedDay, Audit, AuditEach, BookText, Carry, CheckAnswer, LiveDay, Migrate, Office, Question}
use Rattle.gasday_words.specs.declared.order.Command.{Command}
use Rattle.gasday_part.specs.Answers.{Told, AnswersBytes}
use Rattle.gasday_archive.specs.Runs.{TellsMigration, TellsOpened, TellsBytes, OrNoMemory}

-- a command's answer to the bytes of a text; no archive comes back
abbrev pub AnswersCommand : {S : Type 0} → Command → List ℕ → Option (Held S) → Told → Type 0
AnswersCommand command text left a = (left ≡ None) × AnswersBytes command text a

-- an order that is answered over one text or none: none that checks an answer to a question, runs an office, audits a file, serves the
-- book of one, prints its text, or asks something of a book
abbrev pub IsAnswered : Ordered → Type 0
IsAnswered (Office strict) = ⊥
IsAnswered CheckAnswer = ⊥
IsAnswered (Audit file) = ⊥
IsAnswered (AuditEach file) = ⊥
IsAnswered (LiveDay file) = ⊥
IsAnswered (BookText file) = ⊥
IsAnswered (Question file cycle round) = ⊥
IsAnswered (Carry file) = ⊥
IsAnswered order = ⊤

-- What an order is answered, whose text has these bytes. A command its answer to them, and a gas day what is told of them and of
-- the archive that the opener gives, or that memory ran out before. A migration, which reads nothing, what is told of that archive.
abbrev pub Answers : {S : Type 0} → Ghosts S → (Result (Held S) Error → Type 0) → Ordered → List ℕ → Option (Held S) → Told → Type 0
Answers g gives (Text command) text left a = OrNoMemory (AnswersCommand command text) left a
Answers g gives (ArchivedDay file strict) text left a = OrNoMemory (TellsBytes g gives strict text) left a
Answers g gives (Migrate file) text left a = TellsOpened g gives (TellsMigration g) left a
Answers g gives CheckAnswer text left a = ⊥
Answers g gives (Office strict) text left a = ⊥
Answers g gives (Audit file) text left a = ⊥
Answers g gives (AuditEach file) text left a = ⊥
Answers g gives (LiveDay file) text left a = ⊥
Answers g gives (BookText file) text left a = ⊥
Answers g gives (Question file cycle round) text left a = ⊥
Answers g gives (Carry file) text left a = ⊥
