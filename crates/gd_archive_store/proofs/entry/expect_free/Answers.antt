use Rattle.std.proofs.Common.{◌≡◌, length, rules}
use Rattle.sqlite.specs.Held.{state}
use Rattle.gd_archive_store.specs.declared.fault.StoreFault.TheVariants.{Store}
use Rattle.gd_archive_store.proofs.Keeping.{still, finds_some, finds_none, frees_err, cut_short}
use Rattle.gd_archive_store.proofs.entry.expect_free.Goals as goal

pub returns-then-not-is_empty-clause-free : goal.returns-then-not-is_empty-clause-free
returns-then-not-is_empty-clause-free g c clean =
    let old = state g.S.Store c.args.conn.now in
    let mid = state g.S.Store c.expect_second.new.conn in
    let late = state g.S.Store c.rows_at.new.conn in
    let is = c.in_ok-expect_second.ensures.second (c.rows_at.ensures.clean clean) in
    let found = c.in_ok-there.ensures.found clean (still old mid late c.args.book.now c.args.cycle is) in
    finds_some old mid late c.args.book.now c.args.cycle is c.in_ok-there.there.items found (search rules)

pub returns-clause-free : goal.returns-clause-free
returns-clause-free g c clean =
    let old = state g.S.Store c.args.conn.now in
    let mid = state g.S.Store c.expect_second.new.conn in
    let late = state g.S.Store c.rows_at.new.conn in
    let items = c.in_ok-there.there.items in
    let is = c.in_ok-expect_second.ensures.second (c.rows_at.ensures.clean clean) in
    let found = c.in_ok-there.ensures.found clean (still old mid late c.args.book.now c.args.cycle is) in
    let empty : length items ≡ 0 = search rules in
    finds_none old mid late c.args.book.now c.args.cycle is items found empty

pub returns-in_err-expect_second-clause-free : goal.returns-in_err-expect_second-clause-free
returns-in_err-expect_second-clause-free g c clean =
    frees_err (state g.S.Store c.args.conn.now) (state g.S.Store c.expect_second.new.conn) c.args.book.now c.args.cycle c.from_residual.result c.in_err-expect_second.field-0.0
    c.from_residual.ensures.1 (c.in_err-expect_second.ensures.stopped clean)

pub returns-in_err-there-clause-free : goal.returns-in_err-there-clause-free
returns-in_err-there-clause-free g c clean =
    let old = state g.S.Store c.args.conn.now in
    let mid = state g.S.Store c.expect_second.new.conn in
    let late = state g.S.Store c.rows_at.new.conn in
    let is = c.in_ok-expect_second.ensures.second (c.rows_at.ensures.clean clean) in
    let has = still old mid late c.args.book.now c.args.cycle is in
    let error = c.in_err-there.field-0.0 in
    frees_err old late c.args.book.now c.args.cycle c.from_residual-in_err-there.result (Store error) c.from_residual-in_err-there.ensures.1
    (cut_short old mid late error is (c.in_err-there.ensures.refused clean) (c.in_err-there.ensures.cut_off clean has))
