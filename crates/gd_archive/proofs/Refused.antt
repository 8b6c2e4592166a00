-- Refusals of fetching and auditing.
use Rattle.std.proofs.Common.{◌≡◌, inl, ℕ, List, Option, Some, Result, Ok, Err, IfErr, IsErrAnd, sym, subst}
use Rattle.sqlite.specs.Order.{Row}
use Rattle.sqlite.specs.State.{State}
use Rattle.sqlite.specs.declared.error.Error.{Error}
use Rattle.gd_board.specs.declared.posting.Posting.{Posting}
use Rattle.gd_archive_store.specs.Calls.{IsStopped, IsListed, IsFailed, Finds}
use Rattle.gd_archive_store.specs.declared.fault.StoreFault.{StoreFault}
use Rattle.gd_archive_store.specs.declared.fault.StoreFault.TheVariants as store_fault
use Rattle.gd_archive_store.specs.Contents.{IsArchive}
use Rattle.gd_archive_store.proofs.Keeping.{two_versions}
use Rattle.gd_archive.specs.declared.fault.Rule.{Rule}
use Rattle.gd_archive.specs.declared.fault.FetchFault.{FetchFault}
use Rattle.gd_archive.specs.declared.fault.FetchFault.TheVariants as fetch_fault
use Rattle.gd_archive.specs.declared.fault.AuditFault.{AuditFault}
use Rattle.gd_archive.specs.declared.fault.AuditFault.TheVariants as audit_fault
use Rattle.gd_archive.specs.Faults as faults
use Rattle.gd_archive.specs.Calls.{AuditsNone, BlamesFirst, Tells, Fetches, Audits}

-- what is left as it was, in an archive of version 2, was not refused for its version
failed : (old new : State) (e : Error) → IsArchive old.now 2 → new.now ≡ old.now → IsFailed old new e
failed old new e is same = (λ _. same, λ says. absurd (two_versions old.now says is))

module _ (old new : State) where
  fetch_stopped : (book : List ℕ) (cycle : ℕ) (f : StoreFault) → IsStopped old new f → Fetches old new book cycle (Err (faults.fetch_fault f))
  fetch_stopped book cycle store_fault.OldVersion h = h
  fetch_stopped book cycle (store_fault.Store e) h = (h.0, λ says. h.1 (inl says))

  pub fetches_stopped : (book : List ℕ) (cycle : ℕ) (r : Result (Option (Rule × Posting)) FetchFault) (f : StoreFault) → IsErrAnd r (λ g. g ≡ faults.fetch_fault f) → IsStopped old new f → Fetches old new book cycle r
  fetches_stopped book cycle (Ok found) f h stopped = absurd h
  fetches_stopped book cycle (Err g) f h stopped = subst (λ x. Fetches old new book cycle (Err x)) (sym h) (fetch_stopped book cycle f stopped)

  row_told : (book : List ℕ) (cycle : ℕ) (row : Row) (f : FetchFault) → Finds old new book cycle (Ok (Some row)) → Tells book cycle row (Err f) → Fetches old new book cycle (Err f)
  row_told book cycle row fetch_fault.OldVersion found tells = absurd tells
  row_told book cycle row (fetch_fault.Store e) found tells = failed old new e found.0 found.2
  row_told book cycle row fetch_fault.Damaged found tells = (row, found, tells)

  pub fetches_told : (book : List ℕ) (cycle : ℕ) (row : Row) (r : Result (Option (Rule × Posting)) FetchFault) (f : FetchFault) → IsErrAnd r (λ g. g ≡ f) → Finds old new book cycle (Ok (Some row)) → Tells book cycle row (Err f)
      → Fetches old new book cycle r
  fetches_told book cycle row (Ok found) f h there tells = absurd h
  fetches_told book cycle row (Err g) f h there tells = subst (λ x. Fetches old new book cycle (Err x)) (sym h) (row_told book cycle row f there tells)

  audit_stopped : (f : StoreFault) → IsStopped old new f → Audits old new (Err (faults.audit_fault f))
  audit_stopped store_fault.OldVersion h = h
  audit_stopped (store_fault.Store e) h = (h.0, λ says. h.1 (inl says))

  pub audits_stopped : (r : Result ℕ AuditFault) (f : StoreFault) → IsErrAnd r (λ g. g ≡ faults.audit_fault f) → IsStopped old new f → Audits old new r
  audits_stopped (Ok n) f h stopped = absurd h
  audits_stopped (Err g) f h stopped = subst (λ x. Audits old new (Err x)) (sym h) (audit_stopped f stopped)

  pub audits_failed : (r : Result ℕ AuditFault) (rows : List Row) (e : Error) → IsErrAnd r (λ g. g ≡ audit_fault.Store e) → IsListed old new rows → Audits old new r
  audits_failed (Ok n) rows e h listed = absurd h
  audits_failed (Err g) rows e h listed = subst (λ x. Audits old new (Err x)) (sym h) (failed old new e listed.0 listed.3)

  audit_blamed : (rows : List Row) (f : AuditFault) → IsListed old new rows → BlamesFirst rows f → Audits old new (Err f)
  audit_blamed rows audit_fault.OldVersion listed blames = absurd blames.blamed
  audit_blamed rows (audit_fault.Store e) listed blames = failed old new e listed.0 listed.3
  audit_blamed rows (audit_fault.Unsound book cycle what) listed blames = (listed.0, listed.3, (rows, listed.1, listed.2, blames))

  pub audits_blamed : (r : Result ℕ AuditFault) (rows : List Row) (f : AuditFault) → IsErrAnd r (λ g. g ≡ f) → IsListed old new rows → BlamesFirst rows f → Audits old new r
  audits_blamed (Ok n) rows f h listed blames = absurd h
  audits_blamed (Err g) rows f h listed blames = subst (λ x. Audits old new (Err x)) (sym h) (audit_blamed rows f listed blames)

  -- what stops the listing stops the audit of each
  none_stopped : (f : StoreFault) → IsStopped old new f → AuditsNone old new f
  none_stopped store_fault.OldVersion h = h
  none_stopped (store_fault.Store e) h = (h.0, λ says. h.1 (inl says))

  pub each_stopped : {X : Type 0} (r : Result X StoreFault) (f : StoreFault) → IsErrAnd r (λ g. g ≡ f) → IsStopped old new f → IfErr r (AuditsNone old new)
  each_stopped (Ok x) f h stopped = tt
  each_stopped (Err g) f h stopped = subst (AuditsNone old new) (sym h) (none_stopped f stopped)
