use Rattle.std.proofs.Common.{None, subst}
use Rattle.sqlite.specs.Held.{state}
use Rattle.gd_archive_store.specs.Stages.{IsFound}
use Rattle.gd_archive_store.specs.declared.fault.MigrateFault.TheVariants.{Store}
use Rattle.gd_archive_store.proofs.Growing.{says_none}
use Rattle.gd_archive_store.proofs.Migrating.{migrates_err}
use Rattle.gd_archive_store.proofs.carry.migrate.Goals as goal

pub returns-in_err-number-clause-migrated : goal.returns-in_err-number-clause-migrated
returns-in_err-number-clause-migrated g c clean =
    let old = state g.S.Store c.args.conn.now in
    let new = state g.S.Store c.version_found.new.conn in
    migrates_err old new g.R.Rewrite.rewritten g.R.Rewrite.IsHeld c.from_residual.result (Store c.in_err-number.field-0.0) c.from_residual.ensures.1
    (c.in_err-number.ensures.same clean, λ other. c.in_err-number.ensures.hindered clean other.0 other.1 other.3)

pub returns-in_default-clause-migrated : goal.returns-in_default-clause-migrated
returns-in_default-clause-migrated g c clean =
    let db = (state g.S.Store c.args.conn.now).now in
    let found = c.in_ok-number.ensures.read clean in
    let none : IsFound None db = subst (λ o. IsFound o db) c.in_default.is found.0 in
    (λ _. found.1, λ other. absurd (says_none db other.0 none other.3))
