-- The file that an order is on.
use Rattle.std.specs.Prelude.{◌≡◌, ℕ, List}
use Rattle.gasday_words.specs.Ordered.{Ordered, ArchivedDay, LiveDay, BookText, Audit, AuditEach, Question, Carry, Migrate}

-- the order only reads the file of this name
abbrev pub OnlyReads : Ordered → List ℕ → Type 0
OnlyReads (Audit file) name = name ≡ file
OnlyReads (AuditEach file) name = name ≡ file
OnlyReads (BookText file) name = name ≡ file
OnlyReads (Question file cycle round) name = name ≡ file
OnlyReads (Carry file) name = name ≡ file
OnlyReads order name = ⊥

-- the order is on the file of this name, which it reads or writes
abbrev pub IsOn : Ordered → List ℕ → Type 0
IsOn (ArchivedDay file strict) name = name ≡ file
IsOn (LiveDay file) name = name ≡ file
IsOn (Migrate file) name = name ≡ file
IsOn order name = OnlyReads order name
