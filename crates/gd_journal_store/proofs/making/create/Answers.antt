use Rattle.sqlite.specs.Held.{state}
use Rattle.gd_journal_store.proofs.Creating.{settles, leaves}
use Rattle.gd_journal_store.proofs.Refusing.{execute_error}
use Rattle.gd_journal_store.proofs.Texts.{create_text}
use Rattle.gd_journal_store.proofs.making.create.Goals as goal

pub returns-clause-made : goal.returns-clause-made
returns-clause-made g c clean has mode =
    settles (state g.S.Store c.args.conn.now) (state g.S.Store c.execute.new.self) has c.execute.result (g.met.S.Store.settled c.execute.new.self.store) mode (c.execute.ensures.runs clean)

pub returns-clause-any_moment : goal.returns-clause-any_moment
returns-clause-any_moment g c clean has = leaves (state g.S.Store c.args.conn.now) (state g.S.Store c.execute.new.self) has c.execute.ensures.survives clean

pub returns-clause-refused : goal.returns-clause-refused
returns-clause-refused g c clean = execute_error (state g.S.Store c.args.conn.now) (state g.S.Store c.execute.new.self) create_text _ c.execute.result (c.execute.ensures.runs clean)
