-- What comes of an order whose text is answered.
use Rattle.std.proofs.Common.{◌⊎◌, ℕ, List, Option, Result}
use Rattle.sqlite_trees.specs.declared.store.Store.{Ghosts}
use Rattle.sqlite.specs.Held.{Held}
use Rattle.sqlite.specs.declared.error.Error.{Error}
use Rattle.gasday_words.specs.Ordered.{Ordered, Text, CheckAnswer, Office, ArchivedDay, LiveDay, BookText, Audit, AuditEach, Question, Carry, Migrate}
use Rattle.gasday_files.specs.Refusals.{Refuses}
use Rattle.gasday_files.specs.Texts.{IsUnread, ReadsText}
use Rattle.gasday.specs.Carried.{CarriesRequest, CarriesText, IsCarriedOut}

module _ {S : Type 0} (g : Ghosts S) (gives : Result (Held S) Error → Type 0) (input : Option (List ℕ)) (names : List (List ℕ)) (left : Option (Held S)) (old new : Option (List ℕ)) (status : ℕ) where
  pub answered : (order : Ordered) → IsCarriedOut order → CarriesText g gives input names order left old new status ⊎ (ReadsText order × Refuses (IsUnread input names) left old new status)
      → CarriesRequest g gives input names order left old new status
  answered (Text command) is carried = carried
  answered (Office strict) is carried = carried
  answered (ArchivedDay file strict) is carried = carried
  answered (Audit file) is carried = carried
  answered (AuditEach file) is carried = carried
  answered (Migrate file) is carried = carried
  answered CheckAnswer is carried = absurd is
  answered (LiveDay file) is carried = absurd is
  answered (BookText file) is carried = absurd is
  answered (Question file cycle round) is carried = absurd is
  answered (Carry file) is carried = absurd is
