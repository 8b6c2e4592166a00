use Rattle.sqlite.specs.Held.{state}
use Rattle.gd_journal_store.proofs.Inserting.{settles, leaves}
use Rattle.gd_journal_store.proofs.Refusing.{execute_error}
use Rattle.gd_journal_store.proofs.Texts.{insert_text}
use Rattle.gd_journal_store.proofs.appending.enter.Goals as goal

pub returns-clause-appended : goal.returns-clause-appended
returns-clause-appended g c clean ps had is =
    let ran = rw (c.params-to_sql.ensures, c.params-to_sql-2.ensures, c.params-to_sql-3.ensures) at (c.execute.ensures.runs clean) in
    settles (state g.S.Store c.args.conn.now) (state g.S.Store c.execute.new.self) c.args.number (c.args.rows.now, c.args.told.now) ps is had c.execute.result (g.met.S.Store.settled c.execute.new.self.store) ran

pub returns-clause-any_moment : goal.returns-clause-any_moment
returns-clause-any_moment g c clean ps had is =
    let lives = rw (c.params-to_sql.ensures, c.params-to_sql-2.ensures, c.params-to_sql-3.ensures) at c.execute.ensures.survives in
    leaves (state g.S.Store c.args.conn.now) (state g.S.Store c.execute.new.self) c.args.number (c.args.rows.now, c.args.told.now) ps is had lives clean

pub returns-clause-refused : goal.returns-clause-refused
returns-clause-refused g c clean = execute_error (state g.S.Store c.args.conn.now) (state g.S.Store c.execute.new.self) insert_text _ c.execute.result (c.execute.ensures.runs clean)
