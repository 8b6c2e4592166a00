-- What is told of an archive that is audited.
use Rattle.std.proofs.Common.{◌≡◌, ℕ, List, Result, IfOk, refl, inl, inr}
use Rattle.sqlite_trees.specs.declared.store.Store.{Ghosts}
use Rattle.sqlite.specs.Held.{Held, state}
use Rattle.sqlite.specs.State.{HasCleanDisk}
use Rattle.gd_archive.specs.Calls as archive
use Rattle.gd_archive.specs.declared.fault.AuditFault.{AuditFault}
use Rattle.gd_archive.specs.declared.finding.Finding.{Finding}
use Rattle.gd_archive_store.specs.declared.fault.StoreFault.{StoreFault}
use Rattle.gasday_part.specs.AnswerSeen.{answer_seen}
use Rattle.gasday_part.specs.declared.answer.Answer.{Answer}
use Rattle.gasday_archive.specs.Archives.{audited, each_told, store_fault}
use Rattle.gasday_archive.specs.Runs.{Tells, TellsAudit, TellsEach}

pub archive_audited : {S E : Type 0} (g : Ghosts S) (old new : Held S) (r : Result Answer E) (found : Result ℕ AuditFault)
    → (HasCleanDisk (state g new) → archive.Audits (state g old) (state g new) found)
    → IfOk r (λ a. answer_seen a ≡ audited found) → Tells (λ a. HasCleanDisk (state g new) → TellsAudit g old new a) r
archive_audited g old new r found audits is = record { told = audited found; means = λ clean. (found, audits clean, refl); is = is }

module _ {S E : Type 0} (g : Ghosts S) (old new : Held S) (r : Result Answer E) where
  pub each_audited : (findings : List Finding) → (HasCleanDisk (state g new) → archive.AuditsEach (state g old) (state g new) findings)
      → IfOk r (λ a. answer_seen a ≡ each_told findings) → Tells (λ a. HasCleanDisk (state g new) → TellsEach g old new a) r
  each_audited findings audits is = record { told = each_told findings; means = λ clean. inl (findings, audits clean, refl); is = is }

  pub none_audited : (f : StoreFault) → (HasCleanDisk (state g new) → archive.AuditsNone (state g old) (state g new) f)
      → IfOk r (λ a. answer_seen a ≡ store_fault f) → Tells (λ a. HasCleanDisk (state g new) → TellsEach g old new a) r
  none_audited f fails is = record { told = store_fault f; means = λ clean. inr (f, fails clean, refl); is = is }
