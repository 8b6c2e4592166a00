-- What is told of a file that is audited.
use Rattle.std.specs.Prelude.{◌≡◌, ◌≢◌, ◌⊎◌, Bool, true, false}
use Rattle.sqlite_trees.specs.declared.store.Store.{Ghosts}
use Rattle.sqlite.specs.Held.{Held, state}
use Rattle.gd_journal_store.specs.Table.{journal}
use Rattle.gasday_part.specs.Answers.{Told}
use Rattle.gasday_live.specs.Audits as book
use Rattle.gasday_archive.specs.Runs as archive

-- an archive: how many postings are sound, or the first that is not; or each of them, where that is asked for
abbrev pub TellsArchive : {S : Type 0} → Ghosts S → Bool → Held S → Held S → Told → Type 0
TellsArchive g true = archive.TellsEach g
TellsArchive g false = archive.TellsAudit g

-- as a book's file, where it is one, and else as an archive
abbrev pub TellsAudit : {S : Type 0} → Ghosts S → Bool → Held S → Held S → Told → Type 0
TellsAudit g each old new a =
    (((state g old).now.schema ≡ journal) × book.Audits (state g old) a)
    ⊎ (((state g old).now.schema ≢ journal) × TellsArchive g each old new a)
