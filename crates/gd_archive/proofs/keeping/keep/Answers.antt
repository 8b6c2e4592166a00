use Rattle.std.proofs.Common.{◌≡◌, refl, rules}
use Rattle.sqlite.specs.Held.{state}
use Rattle.gd_body.specs.Body.{IsBody}
use Rattle.gd_archive_store.specs.Contents.{entry}
use Rattle.gd_archive_store.specs.declared.fault.KeepFault.TheVariants.{Store}
use Rattle.gd_archive_store.proofs.Keeping.{then_refused, then_kept, free_settled, free_archive}
use Rattle.gd_archive.proofs.Entering.{keeps_err, refused_of, free_of, entered_of}
use Rattle.gd_archive.proofs.keeping.keep.Goals as goal

pub returns-in_err-expect_free-clause-kept : goal.returns-in_err-expect_free-clause-kept
returns-in_err-expect_free-clause-kept g c clean =
    let old = state g.S.Store c.args.conn.now in
    let new = state g.S.Store c.expect_free.new.conn in
    let p = c.args.posting.now in
    let fault = c.in_err-expect_free.field-0.0 in
    let is_cycle : c.from-cycle.result ≡ p.cycle = search rules in
    keeps_err old new p c.from_residual.result fault c.from_residual.ensures.1
    (refused_of old new p c.as_str-book.result.now c.from-cycle.result c.as_str-book.ensures is_cycle fault (c.in_err-expect_free.ensures.free clean))

pub returns-in-Err-clause-kept : goal.returns-in-Err-clause-kept
returns-in-Err-clause-kept g c clean =
    let old = state g.S.Store c.args.conn.now in
    let mid = state g.S.Store c.expect_free.new.conn in
    let p = c.args.posting.now in
    let is_cycle : c.from-cycle.result ≡ p.cycle = search rules in
    then_refused old mid mid p.book p.cycle _
    (free_of old mid p c.as_str-book.result.now c.from-cycle.result c.as_str-book.ensures is_cycle (c.in_ok-expect_free.ensures.free clean)) (λ _. refl)

pub returns-in_err-enter-clause-kept : goal.returns-in_err-enter-clause-kept
returns-in_err-enter-clause-kept g c clean =
    let old = state g.S.Store c.args.conn.now in
    let mid = state g.S.Store c.expect_free.new.conn in
    let new = state g.S.Store c.enter.new.conn in
    let p = c.args.posting.now in
    let is_cycle : c.from-cycle.result ≡ p.cycle = search rules in
    let free =
    free_of old mid p c.as_str-book.result.now c.from-cycle.result c.as_str-book.ensures is_cycle (c.in_ok-expect_free.ensures.free (c.enter.ensures.clean clean)) in
    let error = c.in_err-enter.field-0.0 in
    keeps_err old new p c.from_residual-in_err-enter.result (Store error) c.from_residual-in_err-enter.ensures.1
    (then_refused old mid new p.book p.cycle error free (c.in_err-enter.ensures.same clean (free_settled old mid p.book p.cycle free)))

pub returns-clause-kept : goal.returns-clause-kept
returns-clause-kept g c clean =
    let old = state g.S.Store c.args.conn.now in
    let mid = state g.S.Store c.expect_free.new.conn in
    let new = state g.S.Store c.enter.new.conn in
    let p = c.args.posting.now in
    let book = c.as_str-book.result.now in
    let cycle = c.from-cycle.result in
    let body = c.in-Ok.body.items in
    let is_cycle : c.from-cycle.result ≡ p.cycle = search rules in
    let free =
    free_of old mid p book cycle c.as_str-book.ensures is_cycle (c.in_ok-expect_free.ensures.free (c.enter.ensures.clean clean)) in
    let entered =
    entered_of mid new p book cycle c.as_str-book.ensures is_cycle _ _ body
    (c.in_ok-enter.ensures.entered clean (free_archive old mid p.book p.cycle free) (free_settled old mid p.book p.cycle free)) (search rules) (search rules) in
    let written : IsBody p body = search rules in
    (body, written, then_kept old mid new p.book p.cycle (entry p.round body 2) free entered)
