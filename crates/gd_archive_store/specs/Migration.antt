-- What completing an archive leaves, and what a migration does.
use Rattle.std.specs.Prelude.{◌≡◌, ◌⊎◌, ℕ, ◌<◌, ◌≤◌, pos, [], ◌∷◌, map, length, IsPermutation}
use Rattle.sqlite.specs.declared.types.Value.{Value}
use Rattle.sqlite.specs.declared.types.Value.TheVariants.{Int}
use Rattle.sqlite.specs.Kind.TheVariants.{Integer}
use Rattle.sqlite.specs.Cast.{cast}
use Rattle.sqlite.specs.Order.{Row, column}
use Rattle.sqlite.specs.Effect.{Database}
use Rattle.gd_archive_store.specs.Tables.{version_2, first_tables, tree_of}
use Rattle.gd_archive_store.specs.Contents.{HasVersion, IsArchive, rows_of, old_rows_of}

-- Where so many of the tables were there, there is an archive of version 2: each posting is as it was, and so is the version
-- if there was one.
pub record IsCompleted (count : ℕ) (old new : Database) : Type 0 where
  pub were : old.schema ≡ first_tables count
  pub archive : IsArchive new 2
  pub version : 0 < count → (old.trees 0 ≡ []) ⊎ (new.trees 0 ≡ old.trees 0)
  pub kept : (at : ℕ) → 0 < at → at < count → new.trees (tree_of at) ≡ old.trees (tree_of at)
  pub made : (at : ℕ) → 0 < at → count ≤ at → at < 3 → new.trees (tree_of at) ≡ []

-- Book, cycle and round as they were, the body rewritten, and rule 1. A round that is no integer is kept as a column of
-- integers keeps it: a real number that is whole is that integer.
abbrev pub carried : (Row → Value) → Row → Row
carried rewritten row = column row 0 ∷ column row 1 ∷ cast Integer (column row 2) ∷ rewritten row ∷ Int (pos 1) ∷ []

-- version 2 has each row of version 1 with its body rewritten and rule 1, and no other; version 1's table is empty
pub record IsMigrated (rewritten : Row → Value) (old new : Database) (count : ℕ) : Type 0 where
  pub schema : new.schema ≡ version_2
  pub version : HasVersion new 2
  pub rows : IsPermutation (map (carried rewritten) (old_rows_of old)) (rows_of new)
  pub before : new.trees 1 ≡ []
  pub counted : count ≡ length (old_rows_of old)
