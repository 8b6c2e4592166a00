use Rattle.sqlite.specs.Held.{state}
use Rattle.gd_archive_store.proofs.Inside.{clears}
use Rattle.gd_archive_store.proofs.carry.clear.Goals as goal

pub returns-clause-gone : goal.returns-clause-gone
returns-clause-gone g c clean inside has =
    let a = state g.S.Store c.args.tx.now.conn.now in
    let b = state g.S.Store c.run.new.tx.conn.now in
    let d = state g.S.Store c.run-2.new.tx.conn.now in
    let one = c.in_ok-run.ensures.ran (c.run-2.ensures.clean clean) inside in
    let two = c.in_ok-run-2.ensures.ran clean one.1 in
    (clears a b d c.in_ok-run.field-0 c.in_ok-run-2.field-0 has one.0 two.0, two.1)
