-- How the close of a file goes.
use Rattle.std.proofs.Common.{◌≡◌, Option, Some, Ok, Err, sym, subst}
use Rattle.sqlite_disk.specs.declared.Disk.{Ghosts}
use Rattle.sqlite_disk.specs.declared.Files.{Files}
use Rattle.sqlite_wal.specs.Reads.{AreClean}
use Rattle.sqlite_trees.specs.View.{IsClean}
use Rattle.sqlite_store.specs.declared.store.FileStore.{FileStore}
use Rattle.sqlite_store.specs.FileStore.{view, files as store_files}
use Rattle.sqlite.specs.declared.error.Error.{Error}
use Rattle.sqlite.specs.Held.{Held}
use Rattle.sqlite.specs.Files.{IsClosed, FailsToClose}
use Rattle.sqlite.specs.Closing.{IsCopied}
use Rattle.gasday_files.specs.Closing.{Closes}

module _ {D : Type 0} (g : Ghosts D) (opened : Option (Held (FileStore D g))) (file : Held (FileStore D g)) (is : opened ≡ Some file) where
  pub copied : (files : Files D) (last : FileStore D g) → store_files last ≡ (files.log, files.db) → IsClosed file last → (AreClean g files.log files.db → IsCopied file files)
      → Closes g opened (Ok tt)
  copied files last stands closed copies = subst (λ (o : Option (Held (FileStore D g))). Closes g o (Ok tt)) (sym is) (files, last, stands, closed, copies)

  pub failed : (last : FileStore D g) (error : Error) → IsClosed file last × (IsClean (view last) → FailsToClose file last error) → Closes g opened (Err error)
  failed last error closes = subst (λ (o : Option (Held (FileStore D g))). Closes g o (Err error)) (sym is) (last, closes.0, closes.1)
