-- What is found in the file that an order names, by what it and its log hold as they are opened, or in a copy of it.
use Rattle.std.specs.Prelude.{◌≡◌, false, IsTrue, Result, Ok, Err}
use Rattle.std.specs.Borrow.{RattleType}
use Rattle.sqlite_disk.specs.declared.Disk.{Ghosts}
use Rattle.sqlite_disk.specs.declared.Files.{Files}
use Rattle.sqlite_disk.specs.declared.modelled.Modelled.{Modelled}
use Rattle.sqlite_disk.specs.declared.start.Start as start
use Rattle.sqlite_disk.specs.contracts.modelled.ModelledDisk.TheImpl as modelled
use Rattle.sqlite_std_file.specs.declared.host.Host.{Host}
use Rattle.sqlite_std_file.specs.contracts.host.Host as host
use Rattle.sqlite_std_file.specs.contracts.host.HostCalls.TheImpl as calls
use Rattle.sqlite_wal.specs.Files.{image_at}
use Rattle.sqlite_store.specs.FileStore.{view}
use Rattle.sqlite_store.specs.declared.store.FileStore.{FileStore}
use Rattle.sqlite.specs.declared.error.Error.{Error}
use Rattle.sqlite.specs.Files.{file_state, Finds, IsBlankAs, IsOpened}
use Rattle.sqlite.specs.Held.{Held, IsNew}
use Rattle.sqlite.specs.Opening.{is_open_error}
use Rattle.sqlite.specs.Start.{FindsIn}
use Rattle.sqlite.specs.State.{HasCleanDisk}

-- a file of the system as a disk, by what it held as it was opened
abbrev pub disk_of : (F : RattleType) (found : start.Ghosts F.Denot) → Ghosts (Modelled Host F.Denot calls.ghosts found)
disk_of F found = modelled.ghosts host.the_row F calls.ghosts modelled.no_dict found modelled.no_dict modelled.no_dict

module _ {F : Type 0} (found : start.Ghosts F) {D : Type 0} {g : Ghosts D} where
  -- The database that is open is the one that the file and its log hold; or a new one, whose pages end in no sums, where they hold
  -- none.
  pub record IsHeld (file : Held (FileStore D g)) : Type 0 where
    pub opened : IsOpened file
    pub holds : FindsIn (image_at found) (file_state file)
    pub plain : IsBlankAs false (image_at found) → (view file.store).has_sums ≡ false
    pub guarded : (file_state file).IsShielded

  -- What is opened where a file and its log hold this: a new connection, and, if the disk gave back what was written to it, to that
  -- database; or nothing, for one of the errors of an open.
  abbrev pub FindsAs : Result (Held (FileStore D g)) Error → Type 0
  FindsAs (Ok file) = IsNew file × (HasCleanDisk (file_state file) → IsHeld file)
  FindsAs (Err error) = IsTrue (is_open_error error)

module _ {D : Type 0} {g : Ghosts D} where
  -- What is opened of a copy: a new connection to the database that some bytes hold, and which they are is left open; or nothing, as
  -- above.
  abbrev pub FindsCopy : Result (Held (FileStore D g)) Error → Type 0
  FindsCopy (Ok file) =
      IsNew file
      × (HasCleanDisk (file_state file) → IsOpened file × (file_state file).IsShielded × ((files : Files D) × Finds files file))
  FindsCopy (Err error) = IsTrue (is_open_error error)
