-- What the calls promise.
use Rattle.std.specs.Prelude.{All, ◌≡◌, ◌≢◌, ◌⊎◌, ℕ, List, [], ◌∷◌, Option, Some, None, Result, Ok, Err, IsPermutation}
use Rattle.sqlite.specs.declared.types.Value.{Value}
use Rattle.sqlite.specs.Order.{Row}
use Rattle.sqlite.specs.State.{State, IsUnchanged}
use Rattle.gd_archive_store.specs.Contents.{kept_at, rows_of, old_rows_of, IsAscending, SaysVersion, SaysOther, IsArchive, IsKnown, IsEntered, IsSettled, IsSame, IsHindered}
use Rattle.gd_archive_store.specs.Migration.{IsCompleted, IsMigrated}
use Rattle.sqlite.specs.declared.error.Error.{Error}
use Rattle.gd_archive_store.specs.declared.fault.StoreFault.{StoreFault}
use Rattle.gd_archive_store.specs.declared.fault.StoreFault.TheVariants as store_fault
use Rattle.gd_archive_store.specs.declared.fault.KeepFault.{KeepFault}
use Rattle.gd_archive_store.specs.declared.fault.KeepFault.TheVariants as keep_fault
use Rattle.gd_archive_store.specs.declared.fault.MigrateFault.{MigrateFault}
use Rattle.gd_archive_store.specs.declared.fault.MigrateFault.TheVariants as migrate_fault

-- what stops `find` stops `keep`
abbrev pub kept_fault : StoreFault → KeepFault
kept_fault store_fault.OldVersion = keep_fault.OldVersion
kept_fault (store_fault.Store e) = keep_fault.Store e

module _ (old new : State) where
  -- A refusal for the version says that it is 1. On a file of version 1 or an archive of version 2 there is no other, unless
  -- something hindered the call. No refusal changes anything.
  abbrev pub IsStopped : StoreFault → Type 0
  IsStopped store_fault.OldVersion = SaysVersion old.now 1 × IsSame old new
  IsStopped (store_fault.Store e) = IsSame old new × (IsKnown old.now → IsHindered old e)

  -- nothing changes, and on a file of version 1 something hindered the call
  abbrev pub IsFailed : Error → Type 0
  IsFailed e = IsSame old new × (SaysVersion old.now 1 → IsHindered old e)

  -- There is an archive of version 2 then, with what was lacking, and what was one is as it was. A file of version 1 is
  -- refused as such.
  abbrev pub Makes : Result (Unit {0}) StoreFault → Type 0
  Makes (Ok _) = ((count : ℕ) × IsCompleted count old.now new.now × (new.committed ≡ new.now)) ⊎ (IsArchive old.now 2 × (new.now ≡ old.now))
  Makes (Err store_fault.OldVersion) = SaysVersion old.now 1 × IsSame old new
  Makes (Err (store_fault.Store e)) = IsFailed e

  -- each row is answered once, in order
  abbrev pub IsListed : List Row → Type 0
  IsListed rows = IsArchive old.now 2 × IsPermutation (rows_of old.now) rows × IsAscending rows × (new.now ≡ old.now)

  -- All is carried and committed, and what is known of a row once it was rewritten holds of each; or nothing changes. A file
  -- of another version is refused as such.
  abbrev pub Migrates : (Row → Value) → (Row → Type 0) → Result ℕ MigrateFault → Type 0
  Migrates rewritten held (Ok n) =
      IsArchive old.now 1 × IsMigrated rewritten old.now new.now n × (new.committed ≡ new.now) × All held (old_rows_of old.now)
  Migrates rewritten held (Err migrate_fault.OtherVersion) = SaysOther old.now × IsSame old new
  Migrates rewritten held (Err (migrate_fault.Store e)) = IsSame old new × (SaysOther old.now → IsHindered old e)

  module _ (book : List ℕ) (cycle : ℕ) where
    -- what is answered is what is there
    abbrev pub Finds : Result (Option Row) StoreFault → Type 0
    Finds (Ok None) = IsArchive old.now 2 × (kept_at old.now book cycle ≡ []) × (new.now ≡ old.now)
    Finds (Ok (Some row)) = IsArchive old.now 2 × ((rest : List Row) × IsPermutation (kept_at old.now book cycle) (row ∷ rest)) × (new.now ≡ old.now)
    Finds (Err fault) = IsStopped fault

    -- there is an archive of version 2 with nothing of that book and cycle, and no transaction is open
    pub record IsFree : Type 0 where
      pub archive : IsArchive old.now 2
      pub none : kept_at old.now book cycle ≡ []
      pub settled : IsSettled old

    -- a file of version 1, or an archive that has a posting of that book and cycle
    abbrev pub IsTaken : Type 0
    IsTaken = SaysVersion old.now 1 ⊎ (IsArchive old.now 2 × (kept_at old.now book cycle ≢ []))

    -- A refusal says why a posting is not kept. It is `Store` only where no other is due, unless something hindered the call.
    abbrev pub IsRefusedFor : KeepFault → Type 0
    IsRefusedFor keep_fault.OldVersion = SaysVersion old.now 1 × IsSame old new
    IsRefusedFor keep_fault.Kept = IsArchive old.now 2 × (kept_at old.now book cycle ≢ []) × IsSame old new
    IsRefusedFor (keep_fault.Store e) = IsSame old new × (IsTaken → IsHindered old e)

    -- a posting may be kept exactly where there is none of that book and cycle, and nothing changes
    abbrev pub Frees : Result (Unit {0}) KeepFault → Type 0
    Frees (Ok _) = IsFree × IsUnchanged old new
    Frees (Err fault) = IsRefusedFor fault

    -- one posting was entered where there was none, and committed, and no other changes
    abbrev pub IsKept : Row → Type 0
    IsKept kept = IsArchive old.now 2 × (kept_at old.now book cycle ≡ []) × IsEntered old.now new.now book cycle kept × (new.committed ≡ new.now)
