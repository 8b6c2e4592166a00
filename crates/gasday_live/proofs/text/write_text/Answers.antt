use Rattle.std.proofs.Common.{inr, map}
use Rattle.sqlite.specs.Held.{state}
use Rattle.gd_journal_store.specs.Seen.{seen}
use Rattle.gasday_live.proofs.ReadPieces.{begins, batch_written, all_written, front_written, part_written, whole_front}
use Rattle.gasday_live.proofs.text.write_text.Goals as goal

pub batches-init : goal.batches-init
batches-init g c = begins (state g.S.Store c.count.new.conn) (g.W.Write.contents c.args.writer.now)

pub batches-preserved : goal.batches-preserved
batches-preserved g c =
    let now = c.batches in
    batch_written (state g.S.Store c.count.new.conn) (state g.S.Store now.conn) (g.W.Write.contents c.args.writer.now) (g.W.Write.contents now.writer) now.at now.invariant
    (state g.S.Store c.pieces.new.conn) (g.W.Write.contents c.write_pieces.new.writer) c.min-size.result (map seen c.in_ok-some.some.items) c.pieces.ensures.clean c.in_ok-some.ensures.read c.pieces.ensures.any_moment
    (rw c.as_slice.ensures.value at c.in_ok-write_pieces.ensures.all)

pub returns-clause-text : goal.returns-clause-text
returns-clause-text g c clean =
    let now = c.batches in
    let it = c.in_ok-count.ensures.counted (now.invariant.clean clean) in
    (it.0, it.2, all_written (state g.S.Store c.count.new.conn) (state g.S.Store now.conn) (g.W.Write.contents c.args.writer.now) (g.W.Write.contents now.writer) now.at now.invariant c.in_ok-count.count c.batches-test.false clean it.0 it.3 it.1)

pub returns-clause-any_moment : goal.returns-clause-any_moment
returns-clause-any_moment g c clean db may =
    let now = c.batches.invariant in c.count.ensures.any_moment (now.clean clean) db (now.leaves clean db may)

pub returns-in_err-some-clause-front : goal.returns-in_err-some-clause-front
returns-in_err-some-clause-front g c clean =
    let now = c.batches in
    let up = c.pieces.ensures.clean clean in
    let it = c.in_ok-count.ensures.counted (now.invariant.clean up) in
    front_written (state g.S.Store c.count.new.conn) (state g.S.Store now.conn) (g.W.Write.contents c.args.writer.now) (g.W.Write.contents now.writer) now.at now.invariant up it.0 it.3 (state g.S.Store c.args.conn.now) it.2

pub returns-in_err-write_pieces-clause-front : goal.returns-in_err-write_pieces-clause-front
returns-in_err-write_pieces-clause-front g c clean =
    let now = c.batches in
    let up = c.pieces.ensures.clean clean in
    let it = c.in_ok-count.ensures.counted (now.invariant.clean up) in
    part_written (state g.S.Store c.count.new.conn) (state g.S.Store now.conn) (g.W.Write.contents c.args.writer.now) (g.W.Write.contents now.writer) now.at now.invariant
    (state g.S.Store c.pieces.new.conn) (g.W.Write.contents c.write_pieces.new.writer) c.min-size.result (map seen c.in_ok-some.some.items) up clean it.0 it.3 (c.in_ok-some.ensures.read clean)
    (rw c.as_slice.ensures.value at c.write_pieces.ensures.front) (state g.S.Store c.args.conn.now) it.2

pub returns-clause-front : goal.returns-clause-front
returns-clause-front g c clean =
    let now = c.batches in
    let it = c.in_ok-count.ensures.counted (now.invariant.clean clean) in
    let all = all_written (state g.S.Store c.count.new.conn) (state g.S.Store now.conn) (g.W.Write.contents c.args.writer.now) (g.W.Write.contents now.writer) now.at now.invariant c.in_ok-count.count c.batches-test.false clean it.0 it.3 it.1 in
    let whole = whole_front _ _ _ all in
    inr (it.0, it.2, (whole.0, whole.2))
