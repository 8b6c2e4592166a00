use Rattle.std.proofs.Common.{map}
use Rattle.std.proofs.lemmas.Result.{err_from_is_err_and}
use Rattle.sqlite.specs.Held.{state}
use Rattle.gd_journal_store.specs.Seen.{seen}
use Rattle.gd_serving.proofs.Again.{begins_batches, batch_taken, all_taken, batch_differs}
use Rattle.gd_serving.proofs.replaying.replay.Goals as goal

pub batches-init : goal.batches-init
batches-init g c = begins_batches g.D.TakesLines.gives c.args.desk.now c.args.after c.args.count (state g.S.Store c.args.conn.now)

pub returns-in_err-take_pieces-clause-differs : goal.returns-in_err-take_pieces-clause-differs
returns-in_err-take_pieces-clause-differs g c up ps had is =
    let now = c.batches in
    let p = err_from_is_err_and c.from_residual-in_err-take_pieces.result c.from_residual-in_err-take_pieces.ensures.1 in
    let differs = rw c.as_slice.ensures.value at c.in_err-take_pieces.ensures.differs in
    rw (p.1, p.2) (batch_differs g.D.TakesLines.gives c.args.desk.now c.args.after c.args.count (state g.S.Store c.args.conn.now) (state g.S.Store now.conn) now.at now.desk now.next now.invariant
    (state g.S.Store c.pieces.new.conn) c.min-size.result (map seen c.in_ok-some.some.items) _ c.batches-test.true c.pieces.ensures.clean c.in_ok-some.ensures.read differs up ps had is)

pub batches-preserved : goal.batches-preserved
batches-preserved g c =
    let now = c.batches in
    let more = rw c.as_slice.ensures.value at c.in_ok-take_pieces.ensures.replayed in
    batch_taken g.D.TakesLines.gives c.args.desk.now c.args.after c.args.count (state g.S.Store c.args.conn.now) (state g.S.Store now.conn) now.at now.desk now.next now.invariant
    (state g.S.Store c.pieces.new.conn) c.min-size.result (map seen c.in_ok-some.some.items) c.take_pieces.new.desk c.take_pieces.new.next c.pieces.ensures.clean c.in_ok-some.ensures.read c.pieces.ensures.any_moment more

pub returns-clause-replayed : goal.returns-clause-replayed
returns-clause-replayed g c =
    let now = c.batches in
    all_taken g.D.TakesLines.gives c.args.desk.now c.args.after c.args.count (state g.S.Store c.args.conn.now) (state g.S.Store now.conn) now.at now.desk now.next now.invariant c.batches-test.false
