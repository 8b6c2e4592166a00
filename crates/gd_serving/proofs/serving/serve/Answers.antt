use Rattle.std.proofs.Common.{[], Ok, refl, ap}
use Rattle.std.proofs.lemmas.Result.{err_from_is_err_and}
use Rattle.sqlite.specs.Held.{state}
use Rattle.gd_serving.specs.Runs.{EndsAs}
use Rattle.gd_serving.proofs.Runs.{begins, goes_on, stops, ended, runs_out, out_of_memory}
use Rattle.gd_serving.proofs.serving.serve.Goals as goal

pub returns-in_err-bytes-clause-stopped : goal.returns-in_err-bytes-clause-stopped
returns-in_err-bytes-clause-stopped g c =
    let p = err_from_is_err_and c.from_residual.result c.from_residual.ensures.1 in
    let gives = g.D.TakesLines.gives in
    let conn = state g.S.Store c.args.conn.now in
    let reader = g.R.Read.remaining c.args.reader.now in
    let out = g.W.Write.contents c.args.writer.now in
    rw (p.1, p.2) (out_of_memory gives c.args.desk.now c.args.next conn reader out conn reader out c.args.desk.now [] c.args.next (begins gives c.args.desk.now c.args.next conn reader out [] refl))

pub turns-init : goal.turns-init
turns-init g c =
    begins g.D.TakesLines.gives c.args.desk.now c.args.next (state g.S.Store c.args.conn.now) (g.R.Read.remaining c.args.reader.now) (g.W.Write.contents c.args.writer.now) c.new.result.items c.new.ensures.items

pub returns-in_err-take_turn-clause-stopped : goal.returns-in_err-take_turn-clause-stopped
returns-in_err-take_turn-clause-stopped g c =
    let p = err_from_is_err_and c.from_residual-in_err-take_turn.result c.from_residual-in_err-take_turn.ensures.1 in
    let it = c.in_err-take_turn.ensures.failed in
    rw (p.1, p.2) (stops g.D.TakesLines.gives c.args.desk.now c.args.next (state g.S.Store c.args.conn.now) (g.R.Read.remaining c.args.reader.now) (g.W.Write.contents c.args.writer.now)
    (state g.S.Store c.turns.conn) (g.R.Read.remaining c.turns.reader) (g.W.Write.contents c.turns.writer) c.turns.desk c.turns.intake.begun.items c.turns.intake.next c.turns.invariant it.0
    (state g.S.Store c.take_turn.new.conn) (g.R.Read.remaining c.take_turn.new.reader) (g.W.Write.contents c.take_turn.new.writer) _ c.take_turn.ensures.clean it.1 it.2)

pub returns-in_err-take_turn-clause-clean : goal.returns-in_err-take_turn-clause-clean
returns-in_err-take_turn-clause-clean g c up = c.turns.invariant.clean (c.take_turn.ensures.clean up)

pub returns-in-Ended-clause-ended : goal.returns-in-Ended-clause-ended
returns-in-Ended-clause-ended g c =
    let it = c.in_ok-take_turn.ensures.ended (ap Ok c.in-Ended.is) in
    let left : EndsAs c.turns.intake.begun.items c.finish_of.result = rw (← it.3, ← c.as_slice.ensures.value) c.finish_of.ensures in
    rw (it.1, it.2, it.4) (ended g.D.TakesLines.gives c.args.desk.now c.args.next (state g.S.Store c.args.conn.now) (g.R.Read.remaining c.args.reader.now) (g.W.Write.contents c.args.writer.now)
    (state g.S.Store c.turns.conn) (g.R.Read.remaining c.turns.reader) (g.W.Write.contents c.turns.writer) c.turns.desk c.turns.intake.begun.items c.turns.intake.next c.turns.invariant
    (λ begun. EndsAs begun c.finish_of.result) left it.0)

pub returns-in-Ended-clause-clean : goal.returns-in-Ended-clause-clean
returns-in-Ended-clause-clean g c up = c.turns.invariant.clean (c.take_turn.ensures.clean up)

pub turns-preserved : goal.turns-preserved
turns-preserved g c =
    let it = c.in_ok-take_turn.ensures.goes_on (ap Ok c.in-GoesOn.is) in
    goes_on g.D.TakesLines.gives c.args.desk.now c.args.next (state g.S.Store c.args.conn.now) (g.R.Read.remaining c.args.reader.now) (g.W.Write.contents c.args.writer.now)
    (state g.S.Store c.turns.conn) (g.R.Read.remaining c.turns.reader) (g.W.Write.contents c.turns.writer) c.turns.desk c.turns.intake.begun.items c.turns.intake.next c.turns.invariant it.0
    (state g.S.Store c.take_turn.new.conn) (g.R.Read.remaining c.take_turn.new.reader) (g.W.Write.contents c.take_turn.new.writer) c.take_turn.new.desk c.take_turn.new.intake.begun.items c.take_turn.new.intake.next
    it.1 it.2 c.take_turn.ensures.clean it.3

pub returns-clause-stopped : goal.returns-clause-stopped
returns-clause-stopped g c =
    runs_out g.D.TakesLines.gives c.args.desk.now c.args.next (state g.S.Store c.args.conn.now) (g.R.Read.remaining c.args.reader.now) (g.W.Write.contents c.args.writer.now)
    (state g.S.Store c.turns.conn) (g.R.Read.remaining c.turns.reader) (g.W.Write.contents c.turns.writer) c.turns.desk c.turns.intake.begun.items c.turns.intake.next c.turns.invariant

pub returns-clause-clean : goal.returns-clause-clean
returns-clause-clean g c up = c.turns.invariant.clean up

pub returns-clause-ended : goal.returns-clause-ended
returns-clause-ended g c = tt
