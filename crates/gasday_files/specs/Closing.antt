-- How the file of an order is closed, and what the order's exit status is then.
use Rattle.std.specs.Prelude.{◌≡◌, ⊤, ℕ, Option, Some, None, Result, Ok, Err}
use Rattle.sqlite_disk.specs.declared.Disk.{Ghosts}
use Rattle.sqlite_disk.specs.declared.Files.{Files}
use Rattle.sqlite_wal.specs.Reads.{AreClean}
use Rattle.sqlite_trees.specs.View.{IsClean}
use Rattle.sqlite_store.specs.declared.store.FileStore.{FileStore}
use Rattle.sqlite_store.specs.FileStore.{view, files as store_files}
use Rattle.sqlite.specs.declared.error.Error.{Error}
use Rattle.sqlite.specs.Held.{Held}
use Rattle.sqlite.specs.Files.{IsClosed, FailsToClose}
use Rattle.sqlite.specs.Closing.{IsCopied}
use Rattle.gasday_words.specs.Ordered.{Ordered, ArchivedDay, LiveDay, Migrate}

-- The exit status of an order whose file is closed so: 2 where what it kept or migrated isn't copied from the log into the file.
abbrev pub status_closed : Ordered → Result ⊤ Error → ℕ → ℕ
status_closed (ArchivedDay file strict) (Err error) status = 2
status_closed (LiveDay file) (Err error) status = 2
status_closed (Migrate file) (Err error) status = 2
status_closed order closed status = status

module _ {D : Type 0} (g : Ghosts D) where
  -- How the file that an order opened, if it opened one, is closed. In any case a crash can leave nothing new. Where that went well its
  -- last commit stands in the database file alone, now and after a crash, if the disk gave back what was written to it. Where it
  -- didn't there is a cause, on such a disk: a call of it that failed, a limit, a connection that was shut before, or want of memory.
  abbrev pub Closes : Option (Held (FileStore D g)) → Result ⊤ Error → Type 0
  Closes None closed = closed ≡ Ok tt
  Closes (Some file) (Ok done) =
      (files : Files D) × (last : FileStore D g) × (store_files last ≡ (files.log, files.db)) × IsClosed file last
      × (AreClean g files.log files.db → IsCopied file files)
  Closes (Some file) (Err error) = (last : FileStore D g) × IsClosed file last × (IsClean (view last) → FailsToClose file last error)

  -- An order that came out with this status and this file exits so, by how the file is closed.
  abbrev pub Exits : Ordered → Option (Held (FileStore D g)) → ℕ → ℕ → Type 0
  Exits order file status exit = (closed : Result ⊤ Error) × Closes file closed × (exit ≡ status_closed order closed status)
