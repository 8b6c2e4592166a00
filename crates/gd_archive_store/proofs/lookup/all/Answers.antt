use Rattle.std.proofs.Common.{[]}
use Rattle.sqlite.specs.Held.{state}
use Rattle.gd_archive_store.specs.Calls.{IsStopped}
use Rattle.gd_archive_store.specs.declared.fault.StoreFault.TheVariants.{Store}
use Rattle.gd_archive_store.proofs.Reading.{err_is}
use Rattle.gd_archive_store.proofs.Keeping.{still, cut_short}
use Rattle.gd_archive_store.proofs.lookup.all.Goals as goal

pub returns-in_err-rows-clause-stopped : goal.returns-in_err-rows-clause-stopped
returns-in_err-rows-clause-stopped g c clean =
    let old = state g.S.Store c.args.conn.now in
    let mid = state g.S.Store c.expect_second.new.conn in
    let late = state g.S.Store c.all_rows.new.conn in
    let is = c.in_ok-expect_second.ensures.second (c.all_rows.ensures.clean clean) in
    let has = still old mid late [] 0 is in
    let error = c.in_err-rows.field-0.0 in
    err_is (IsStopped old late) c.from_residual-in_err-rows.result (Store error) c.from_residual-in_err-rows.ensures.1
    (cut_short old mid late error is (c.in_err-rows.ensures.refused clean) (c.in_err-rows.ensures.cut_off clean has))
