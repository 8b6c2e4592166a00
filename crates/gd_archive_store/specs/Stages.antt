-- What the stages of a call find and leave.
use Rattle.std.specs.Prelude.{◌≡◌, ◌⊎◌, ℕ, ◌<◌, ◌≤◌, Bool, true, false, List, [], ◌∷◌, Option, Some, None, IsPermutation}
use Rattle.sqlite.specs.Order.{Row}
use Rattle.sqlite.specs.Effect.{Database}
use Rattle.sqlite.specs.State.{State, IsUnchanged, IsRolledBack}
use Rattle.gd_archive_store.specs.Tables.{version_2, HasArchive, first_tables, tree_of}
use Rattle.gd_archive_store.specs.Contents.{HasVersion, SaysVersion, rows_of}

-- a statement that was refused left the database as it was, or undid the transaction
abbrev pub IsRefused : State → State → Type 0
IsRefused old new = IsUnchanged old new ⊎ IsRolledBack old new

-- what is found of a version: where the version's table stands first it has a row, or none
abbrev pub IsFound : Option ℕ → Database → Type 0
IsFound (Some n) db = SaysVersion db n
IsFound None db = HasArchive db.schema → db.trees 0 ≡ []

-- the tables of version 2 with nothing in them
pub record IsBuilt (db : Database) : Type 0 where
  pub schema : db.schema ≡ version_2
  pub version : HasVersion db 2
  pub before : db.trees 1 ≡ []
  pub postings : db.trees 3 ≡ []

-- Of the first tables those that were there have their rows, and those that were made up to this place have none.
pub record IsGrown (count place : ℕ) (old new : Database) : Type 0 where
  pub schema : new.schema ≡ first_tables place
  pub kept : (at : ℕ) → at < count → new.trees (tree_of at) ≡ old.trees (tree_of at)
  pub made : (at : ℕ) → count ≤ at → at < place → new.trees (tree_of at) ≡ []

-- so many of the first tables have no version, or they have version 2
abbrev pub HasOrLacks : Bool → ℕ → Database → Type 0
HasOrLacks true count db = 0 < count → db.trees 0 ≡ []
HasOrLacks false count db = (0 < count) × HasVersion db 2

-- the version is lacking, or it is 2, of however many of the first tables, and it is not 1
pub record IsLacking (lacks : Bool) (db : Database) : Type 0 where
  pub version : (count : ℕ) → db.schema ≡ first_tables count → HasOrLacks lacks count db
  pub other : SaysVersion db 1 → ⊥

-- one more row, and nothing else changed
pub record IsOneMore (old new : Database) (row : Row) : Type 0 where
  pub schema : new.schema ≡ version_2
  pub rows : IsPermutation (row ∷ rows_of old) (rows_of new)
  pub version : new.trees 0 ≡ old.trees 0
  pub before : new.trees 1 ≡ old.trees 1

-- these rows were entered into empty tables
pub record IsMore (old new : Database) (rows : List Row) : Type 0 where
  pub schema : new.schema ≡ version_2
  pub rows_are : IsPermutation rows (rows_of new)
  pub version : new.trees 0 ≡ old.trees 0
  pub before : new.trees 1 ≡ old.trees 1
