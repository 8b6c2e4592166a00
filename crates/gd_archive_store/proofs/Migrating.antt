-- Why an archive is not migrated.
use Rattle.std.proofs.Common.{◌≡◌, ℕ, Result, Ok, Err, IsErrAnd, sym, subst, ◌∙◌}
use Rattle.sqlite.specs.declared.types.Value.{Value}
use Rattle.sqlite.specs.Order.{Row}
use Rattle.sqlite.specs.Effect.{Database}
use Rattle.sqlite.specs.State.{State}
use Rattle.gd_archive_store.specs.Contents.{SaysVersion, SaysOther}
use Rattle.gd_archive_store.specs.declared.fault.MigrateFault.{MigrateFault}
use Rattle.gd_archive_store.specs.Calls.{Migrates}

pub migrates_err : (old new : State) (rewritten : Row → Value) (held : Row → Type 0) (r : Result ℕ MigrateFault) (f : MigrateFault) → IsErrAnd r (λ g. g ≡ f) → Migrates old new rewritten held (Err f) → Migrates old new rewritten held r
migrates_err old new rewritten held (Ok n) f h refused = absurd h
migrates_err old new rewritten held (Err g) f h refused = subst (λ x. Migrates old new rewritten held (Err x)) (sym h) refused

-- a file that says 1 says no other version
pub not_other : (db : Database) → SaysVersion db 1 → SaysOther db → ⊥
not_other db one other =
    let both = sym other.3.version ∙ one.version in
    let same : other.0 ≡ 1 = cc in
    other.2 same
