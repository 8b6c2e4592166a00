-- What the calls of an archive promise.
use Rattle.std.specs.Prelude.{◌≡◌, ℕ, pos, All, List, ⊤, length, take, slice_get, Option, Some, None, Result, Ok, Err, IsPermutation}
use Rattle.sqlite.specs.declared.types.Value.{Value}
use Rattle.sqlite.specs.declared.types.Value.TheVariants.{Int, Blob}
use Rattle.sqlite.specs.Order.{Row, column}
use Rattle.sqlite.specs.State.{State}
use Rattle.gd_archive_store.specs.Contents.{rows_of, IsAscending, entry, SaysVersion, IsArchive, IsSame}
use Rattle.gd_archive_store.specs.Calls as store
use Rattle.gd_archive_store.specs.Migration.{carried}
use Rattle.gd_archive_store.specs.declared.fault.KeepFault.{KeepFault}
use Rattle.gd_archive_store.specs.declared.fault.MigrateFault.{MigrateFault}
use Rattle.gd_archive_store.specs.declared.fault.StoreFault.{StoreFault}
use Rattle.gd_archive_store.specs.declared.fault.StoreFault.TheVariants as store_fault
use Rattle.gd_board.specs.declared.posting.Posting.{Posting}
use Rattle.gd_body.specs.Body.{IsBody}
use Rattle.gd_body.specs.Rows.{body_text}
use Rattle.gd_body.specs.Spread.{without_spread}
use Rattle.gd_archive.specs.Soundness.{posting_of, posting_at, number, IsSound, Blames}
use Rattle.gd_archive.specs.Findings.{AreFindings}
use Rattle.gd_archive.specs.Repeats.{IsRepeat}
use Rattle.gd_archive.specs.declared.repeat.Repeat.{Repeat}
use Rattle.gd_archive.specs.declared.finding.Finding.{Finding}
use Rattle.gd_archive.specs.declared.fault.Rule.{Rule}
use Rattle.gd_archive.specs.declared.fault.Rule.TheVariants.{Classes, Spread}
use Rattle.gd_archive.specs.declared.fault.FetchFault.{FetchFault}
use Rattle.gd_archive.specs.declared.fault.FetchFault.TheVariants as fetch_fault
use Rattle.gd_archive.specs.declared.fault.AuditFault.{AuditFault}
use Rattle.gd_archive.specs.declared.fault.AuditFault.TheVariants as audit_fault

-- A posting as its rule tells it: by classes alone, the words of the spread are 0.
abbrev pub by_rule : Rule → Posting → Posting
by_rule Classes p = without_spread p
by_rule Spread p = p

-- a row is the first that is blamed: those before it are sound
pub record BlamesFirst (rows : List Row) (fault : AuditFault) : Type 0 where
  pub at : ℕ
  pub row : Row
  pub there : slice_get rows at ≡ Some row
  pub before : All IsSound (take at rows)
  pub blamed : Blames row fault

-- The body of a row of version 1 as version 2 keeps it: the posting's text without words of the spread, and as it was where
-- the row is damaged.
abbrev pub rewritten_to : Row → Option Posting → Value
rewritten_to row (Some p) = Blob (body_text (without_spread p))
rewritten_to row None = column row 3

abbrev pub rewritten : Row → Value
rewritten row = rewritten_to row (posting_of row)

-- a posting that the row keeps is kept behind it too, without words of the spread
abbrev pub IsCarried : Row → Type 0
IsCarried row = (p : Posting) → posting_of row ≡ Some p → posting_of (carried rewritten row) ≡ Some (without_spread p)

-- what a row of round, body and rule tells of a book and cycle
abbrev pub Tells : List ℕ → ℕ → Row → Result (Rule × Posting) FetchFault → Type 0
Tells book cycle row (Ok found) =
    (p : Posting) × (column row 2 ≡ Int (pos (number found.0))) × (posting_at book cycle (column row 0) (column row 1) ≡ Some p)
    × (found.1 ≡ by_rule found.0 p)
Tells book cycle row (Err fetch_fault.OldVersion) = ⊥
Tells book cycle row (Err (fetch_fault.Store e)) = ⊤
Tells book cycle row (Err fetch_fault.Damaged) = posting_at book cycle (column row 0) (column row 1) ≡ None

-- the database was blamed
abbrev pub IsStoreFault : FetchFault → Type 0
IsStoreFault (fetch_fault.Store e) = ⊤
IsStoreFault f = ⊥

module _ (old new : State) where
  -- The posting is entered under the rule of the spread where there was none of its book and cycle, by a text that reads as
  -- this very posting; and nothing else changes. A refusal for its text is told only where no other is due.
  abbrev pub Keeps : Posting → Result (Unit {0}) KeepFault → Type 0
  Keeps p (Ok u) = (body : List ℕ) × IsBody p body × store.IsKept old new p.book p.cycle (entry p.round body 2)
  Keeps p (Err fault) = store.IsRefusedFor old new p.book p.cycle fault

  -- What is kept of a book and cycle, if anything is, and nothing changes. A file of version 1 is refused as such.
  abbrev pub Fetches : List ℕ → ℕ → Result (Option (Rule × Posting)) FetchFault → Type 0
  Fetches book cycle (Ok None) = store.Finds old new book cycle (Ok None)
  Fetches book cycle (Ok (Some found)) = (row : Row) × store.Finds old new book cycle (Ok (Some row)) × Tells book cycle row (Ok found)
  Fetches book cycle (Err fetch_fault.OldVersion) = SaysVersion old.now 1 × IsSame old new
  Fetches book cycle (Err (fetch_fault.Store e)) = store.IsFailed old new e
  Fetches book cycle (Err fetch_fault.Damaged) =
      (row : Row) × store.Finds old new book cycle (Ok (Some row)) × Tells book cycle row (Err fetch_fault.Damaged)

  -- How what is kept of a posting's book and cycle goes with it, if anything is, and nothing changes. A file of version 1 is refused as
  -- such.
  abbrev pub Compares : Posting → Result (Option Repeat) StoreFault → Type 0
  Compares p (Ok None) = store.Finds old new p.book p.cycle (Ok None)
  Compares p (Ok (Some repeat)) = (row : Row) × store.Finds old new p.book p.cycle (Ok (Some row)) × IsRepeat row p repeat
  Compares p (Err store_fault.OldVersion) = SaysVersion old.now 1 × IsSame old new
  Compares p (Err (store_fault.Store e)) = store.IsFailed old new e

  -- Each row is sound, and they are counted; or the first that is not is told, of the rows in their order. A file of version 1
  -- is refused as such.
  abbrev pub Audits : Result ℕ AuditFault → Type 0
  Audits (Ok n) = IsArchive old.now 2 × All IsSound (rows_of old.now) × (n ≡ length (rows_of old.now)) × (new.now ≡ old.now)
  Audits (Err audit_fault.OldVersion) = SaysVersion old.now 1 × IsSame old new
  Audits (Err (audit_fault.Store e)) = store.IsFailed old new e
  Audits (Err (audit_fault.Unsound book cycle what)) =
      IsArchive old.now 2 × (new.now ≡ old.now)
      × ((rows : List Row) × IsPermutation (rows_of old.now) rows × IsAscending rows × BlamesFirst rows (audit_fault.Unsound book cycle what))

  -- What is found of each row is told, of the rows in their order.
  abbrev pub AuditsEach : List Finding → Type 0
  AuditsEach findings = (rows : List Row) × store.IsListed old new rows × AreFindings rows findings

  -- None is told: a file of version 1 is refused as such, or the database is blamed.
  abbrev pub AuditsNone : StoreFault → Type 0
  AuditsNone store_fault.OldVersion = SaysVersion old.now 1 × IsSame old new
  AuditsNone (store_fault.Store e) = store.IsFailed old new e

  -- Each row of version 1 is carried over, and each posting is kept; or nothing changes. A file of another version is refused
  -- as such.
  abbrev pub Migrates : Result ℕ MigrateFault → Type 0
  Migrates count = store.Migrates old new rewritten IsCarried count
