use Rattle.std.proofs.Common.{rules, ◌≡◌, ◌∙◌, All, length}
use Rattle.std.proofs.lemmas.List.Sorted.{IsPermutation-sym, All-permutation, length_permutation}
use Rattle.sqlite.specs.Held.{state}
use Rattle.gd_archive_store.specs.Contents.{rows_of}
use Rattle.gd_archive.specs.Soundness.{IsSound}
use Rattle.gd_archive.specs.Calls.{BlamesFirst}
use Rattle.gd_archive.proofs.Refused.{audits_stopped, audits_failed, audits_blamed}
use Rattle.gd_archive.proofs.auditing.audit.Goals as goal

pub returns-in_err-rows-clause-audited : goal.returns-in_err-rows-clause-audited
returns-in_err-rows-clause-audited g c clean =
    audits_stopped (state g.S.Store c.args.conn.now) (state g.S.Store c.all.new.conn) c.from_residual.result c.in_err-rows.field-0.0 c.from_residual.ensures.1 (c.in_err-rows.ensures.stopped clean)

pub returns-in_err-label_all-clause-audited : goal.returns-in_err-label_all-clause-audited
returns-in_err-label_all-clause-audited g c clean =
    audits_failed (state g.S.Store c.args.conn.now) (state g.S.Store c.all.new.conn) c.from_residual-in_err-label_all.result c.in_ok-rows.rows.items c.in_err-label_all.field-0.0
    c.from_residual-in_err-label_all.ensures.1 (c.in_ok-rows.ensures.listed clean)

pub returns-in_err-test_all-clause-audited : goal.returns-in_err-test_all-clause-audited
returns-in_err-test_all-clause-audited g c clean =
    let rows = c.in_ok-rows.rows.items in
    let blames : BlamesFirst rows c.in_err-test_all.field-0.0 = search rules in
    audits_blamed (state g.S.Store c.args.conn.now) (state g.S.Store c.all.new.conn) c.from_residual-in_err-test_all.result rows c.in_err-test_all.field-0.0
    c.from_residual-in_err-test_all.ensures.1 (c.in_ok-rows.ensures.listed clean) blames

pub returns-clause-audited : goal.returns-clause-audited
returns-clause-audited g c clean =
    let listed = c.in_ok-rows.ensures.listed clean in
    let there = rows_of (state g.S.Store c.args.conn.now).now in
    let rows = c.in_ok-rows.rows.items in
    let sound : All IsSound rows = search rules in
    let count : c.len.result ≡ length rows = search rules in
    (listed.0, All-permutation IsSound rows there (IsPermutation-sym there rows listed.1) sound, count ∙ length_permutation there rows listed.1, listed.3)
