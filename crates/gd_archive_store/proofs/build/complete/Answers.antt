use Rattle.std.proofs.Common.{◌≡◌, IsTrue, ap, sym, subst, ◌∙◌, rules}
use Rattle.sqlite.specs.Held.{state}
use Rattle.sqlite.specs.Effect.{Database}
use Rattle.sqlite.specs.State.{HasCleanDisk, KeepsCommit}
use Rattle.gd_archive_store.specs.Contents.{IsSame}
use Rattle.gd_archive_store.specs.Migration.{IsCompleted}
use Rattle.gd_archive_store.specs.Stages.{HasOrLacks}
use Rattle.gd_archive_store.proofs.Inside.{commit_whole, on_err}
use Rattle.gd_archive_store.proofs.Growing.{completed_at}
use Rattle.gd_archive_store.proofs.build.complete.Goals as goal

pub returns-clause-completed : goal.returns-clause-completed
returns-clause-completed g c clean most has had =
    let end = c.commit.new.self.0 in
    let same : end ≡ c.conn-2-1.given.0 = search rules in
    let late : HasCleanDisk (state g.S.Store end) = search rules in
    let done = (c.in_ok-commit.ensures.ok late).1 in
    let old = state g.S.Store c.args.conn.now in
    let s1 = state g.S.Store c.transaction-tx.result.conn.now in
    let s2 = state g.S.Store c.complete_tables.new.tx.conn.now in
    let clean2 : HasCleanDisk s2 = search rules in
    let begun = c.transaction-tx.ensures.begun in
    let begun1 : s1.now ≡ old.now = ap (λ h. (state g.S.Store h).now) begun in
    let inside1 : IsTrue s1.in_transaction = ap (λ h. (state g.S.Store h).in_transaction) begun in
    let has1 = ap (λ (d : Database). d.schema) begun1 ∙ has in
    let had1 = subst (HasOrLacks c.args.lacks_version c.args.count) (sym begun1) had in
    let whole = (c.in_ok-complete_tables.ensures.completed clean2 inside1 most has1 had1).0 in
    let at_end = completed_at c.args.count old.now s1.now s2.now (state g.S.Store end).now (state g.S.Store end).committed whole begun1 done.now_is done.committed_is in
    subst (λ h. IsCompleted c.args.count old.now (state g.S.Store h).now × ((state g.S.Store h).committed ≡ (state g.S.Store h).now)) same at_end

pub returns-in_err-commit-clause-whole : goal.returns-in_err-commit-clause-whole
returns-in_err-commit-clause-whole g c clean most has had =
    let end = c.commit.new.self.0 in
    let same : end ≡ c.conn-2-1.given.0 = search rules in
    let late : HasCleanDisk (state g.S.Store end) = search rules in
    let old = state g.S.Store c.args.conn.now in
    let s1 = state g.S.Store c.transaction-tx.result.conn.now in
    let s2 = state g.S.Store c.complete_tables.new.tx.conn.now in
    let clean2 : HasCleanDisk s2 = search rules in
    let begun = c.transaction-tx.ensures.begun in
    let begun1 : s1.now ≡ old.now = ap (λ h. (state g.S.Store h).now) begun in
    let inside1 : IsTrue s1.in_transaction = ap (λ h. (state g.S.Store h).in_transaction) begun in
    let committed1 : s1.committed ≡ old.committed = ap (λ h. (state g.S.Store h).committed) begun in
    let open1 : s1.is_open ≡ old.is_open = ap (λ h. (state g.S.Store h).is_open) begun in
    let has1 = ap (λ (d : Database). d.schema) begun1 ∙ has in
    let had1 = subst (HasOrLacks c.args.lacks_version c.args.count) (sym begun1) had in
    let inside2 = (c.in_ok-complete_tables.ensures.completed clean2 inside1 most has1 had1).1 in
    let kept : KeepsCommit s1 s2 = search rules in
    let settled : IsTrue old.is_open → old.now ≡ old.committed = search rules in
    let whole = commit_whole old s1 s2 (state g.S.Store end) c.in_err-commit.field-0.0 committed1 open1 kept settled inside2 (c.in_err-commit.ensures.err late) in
    on_err c.from_residual-in_err-commit.result _ (subst (λ h. IsSame old (state g.S.Store h)) same whole)
