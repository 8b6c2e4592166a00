use Rattle.sqlite.specs.Held.{state}
use Rattle.gd_archive_store.proofs.Keys.{kept}
use Rattle.gd_archive_store.proofs.Refusing.{execute_error, refused_same}
use Rattle.gd_archive_store.proofs.Texts.{insert_text}
use Rattle.gd_archive_store.proofs.entry.enter.Goals as goal

pub returns-clause-entered : goal.returns-clause-entered
returns-clause-entered g c clean is settled =
    let ran = rw (c.params-to_sql.ensures, c.params-to_sql-2.ensures, c.params-to_sql-3.ensures, c.params-to_sql-4.ensures, c.params-to_sql-5.ensures) at (c.execute.ensures.runs clean) in
    kept (state g.S.Store c.args.conn.now) (state g.S.Store c.execute.new.self) c.args.book.now c.args.cycle c.args.round c.args.body.now c.execute.result is.schema settled.mode ran

pub returns-clause-same : goal.returns-clause-same
returns-clause-same g c clean settled =
    refused_same (state g.S.Store c.args.conn.now) (state g.S.Store c.execute.new.self) c.execute.result settled
    (execute_error (state g.S.Store c.args.conn.now) (state g.S.Store c.execute.new.self) insert_text _ c.execute.result (c.execute.ensures.runs clean))
