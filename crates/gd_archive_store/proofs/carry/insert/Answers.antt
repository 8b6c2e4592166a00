use Rattle.sqlite.specs.Values.{bound_value}
use Rattle.sqlite.specs.Held.{state}
use Rattle.gd_archive_store.proofs.Inside.{inserts}
use Rattle.gd_archive_store.proofs.carry.insert.Goals as goal

pub returns-clause-entered : goal.returns-clause-entered
returns-clause-entered g c clean inside has =
    inserts (state g.S.Store c.args.tx.now.conn.now) (state g.S.Store c.execute.new.self.conn.now) c.args.book.now c.args.cycle (bound_value c.args.round.now) (bound_value c.args.body.now) c.execute.result has
    (rw (c.params-to_sql.ensures, c.params-to_sql-2.ensures, c.params-to_sql-3.ensures, c.params-to_sql-4.ensures, c.params-to_sql-5.ensures) at (c.execute.ensures.runs clean inside))
