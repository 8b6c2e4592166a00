use Rattle.std.proofs.Common.{◌≡◌, None, [], rules}
use Rattle.sqlite.specs.Held.{state}
use Rattle.gd_archive_store.specs.declared.fault.StoreFault.TheVariants.{Store}
use Rattle.gd_archive_store.proofs.Keeping.{still, finds_last, finds_err, cut_short}
use Rattle.gd_archive_store.proofs.lookup.find.Goals as goal

pub returns-clause-found : goal.returns-clause-found
returns-clause-found g c clean =
    let old = state g.S.Store c.args.conn.now in
    let mid = state g.S.Store c.expect_second.new.conn in
    let late = state g.S.Store c.rows_at.new.conn in
    let is = c.in_ok-expect_second.ensures.second (c.rows_at.ensures.clean clean) in
    let found = c.in_ok-rows.ensures.found clean (still old mid late c.args.book.now c.args.cycle is) in
    let items = c.in_ok-rows.rows.items in
    let none : c.pop.result ≡ None → items ≡ [] = search rules in
    finds_last old mid late c.args.book.now c.args.cycle is items found c.pop.new.self.items c.pop.result c.pop.ensures.items none

pub returns-in_err-rows-clause-found : goal.returns-in_err-rows-clause-found
returns-in_err-rows-clause-found g c clean =
    let old = state g.S.Store c.args.conn.now in
    let mid = state g.S.Store c.expect_second.new.conn in
    let late = state g.S.Store c.rows_at.new.conn in
    let is = c.in_ok-expect_second.ensures.second (c.rows_at.ensures.clean clean) in
    let has = still old mid late c.args.book.now c.args.cycle is in
    let error = c.in_err-rows.field-0.0 in
    finds_err old late c.args.book.now c.args.cycle c.from_residual-in_err-rows.result (Store error) c.from_residual-in_err-rows.ensures.1
    (cut_short old mid late error is (c.in_err-rows.ensures.refused clean) (c.in_err-rows.ensures.cut_off clean has))
