use Rattle.std.proofs.lemmas.Result.{IfOk-weaker, IfErr-weaker}
use Rattle.sqlite.specs.Held.{state}
use Rattle.gd_archive_store.proofs.Finding.{finds}
use Rattle.gd_archive_store.proofs.Refusing.{query_refused}
use Rattle.gd_archive_store.proofs.Cutting.{find_cut}
use Rattle.gd_archive_store.proofs.Texts.{find_text}
use Rattle.gd_archive_store.proofs.lookup.rows_at.Goals as goal

pub returns-clause-found : goal.returns-clause-found
returns-clause-found g c clean has =
    IfOk-weaker c.query_all.result _ _ (λ rows. finds (state g.S.Store c.args.conn.now) (state g.S.Store c.query_all.new.self) c.args.book.now c.args.cycle rows.items has)
    (rw (c.params-to_sql.ensures, c.params-to_sql-2.ensures) at (c.query_all.ensures.ok clean))

pub returns-clause-refused : goal.returns-clause-refused
returns-clause-refused g c clean =
    IfErr-weaker c.query_all.result _ _ (λ e. query_refused (state g.S.Store c.args.conn.now) (state g.S.Store c.query_all.new.self) find_text _ e) (c.query_all.ensures.err clean)

pub returns-clause-cut_off : goal.returns-clause-cut_off
returns-clause-cut_off g c clean has =
    IfErr-weaker c.query_all.result _ _ (λ e. find_cut (state g.S.Store c.args.conn.now) (state g.S.Store c.query_all.new.self) c.args.book.now c.args.cycle e has) (rw (c.params-to_sql.ensures, c.params-to_sql-2.ensures) at (c.query_all.ensures.err clean))
