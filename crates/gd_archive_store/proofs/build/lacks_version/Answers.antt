use Rattle.std.proofs.Common.{◌≡◌, Err, rules, subst, arith}
use Rattle.sqlite.specs.Held.{state}
use Rattle.gd_archive_store.specs.Contents.{SaysVersion}
use Rattle.gd_archive_store.specs.Stages.{IsFound}
use Rattle.gd_archive_store.specs.Calls.{Makes}
use Rattle.gd_archive_store.specs.declared.fault.StoreFault.TheVariants.{Store}
use Rattle.gd_archive_store.proofs.Reading.{err_is}
use Rattle.gd_archive_store.proofs.Growing.{lacks_none, has_second}
use Rattle.gd_archive_store.proofs.build.lacks_version.Goals as goal

pub returns-in_err-number-clause-stopped : goal.returns-in_err-number-clause-stopped
returns-in_err-number-clause-stopped g c clean =
    let old = state g.S.Store c.args.conn.now in
    let new = state g.S.Store c.version_found.new.conn in
    err_is (λ f. Makes old new (Err f)) c.from_residual.result (Store c.in_err-number.field-0.0) c.from_residual.ensures.1
    (c.in_err-number.ensures.same clean, λ says. c.in_err-number.ensures.hindered clean 1 (omega arith) says)

pub returns-in_default-clause-read : goal.returns-in_default-clause-read
returns-in_default-clause-read g c clean =
    let db = (state g.S.Store c.args.conn.now).now in
    let found = c.in_ok-number.ensures.read clean in
    (lacks_none db (subst (λ o. IsFound o db) c.in_default.is found.0), found.1)

pub returns-clause-read : goal.returns-clause-read
returns-clause-read g c clean =
    let db = (state g.S.Store c.args.conn.now).now in
    let found = c.in_ok-number.ensures.read clean in
    let second : c.in-Some.number ≡ 2 = search rules in
    (has_second db (subst (SaysVersion db) second (subst (λ o. IsFound o db) c.in-Some.is found.0)), found.1)
