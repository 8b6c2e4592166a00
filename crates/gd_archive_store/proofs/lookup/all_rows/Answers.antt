use Rattle.std.proofs.lemmas.Result.{IfOk-weaker, IfErr-weaker}
use Rattle.sqlite.specs.Held.{state}
use Rattle.gd_archive_store.proofs.Listing.{shows_all}
use Rattle.gd_archive_store.proofs.Refusing.{query_refused}
use Rattle.gd_archive_store.proofs.Cutting.{all_cut}
use Rattle.gd_archive_store.proofs.Texts.{all_text}
use Rattle.gd_archive_store.proofs.lookup.all_rows.Goals as goal

pub returns-clause-shown : goal.returns-clause-shown
returns-clause-shown g c clean has =
    IfOk-weaker c.query_all.result _ _ (λ rows. shows_all (state g.S.Store c.args.conn.now) (state g.S.Store c.query_all.new.self) rows.items has) (c.query_all.ensures.ok clean)

pub returns-clause-refused : goal.returns-clause-refused
returns-clause-refused g c clean =
    IfErr-weaker c.query_all.result _ _ (λ e. query_refused (state g.S.Store c.args.conn.now) (state g.S.Store c.query_all.new.self) all_text _ e) (c.query_all.ensures.err clean)

pub returns-clause-cut_off : goal.returns-clause-cut_off
returns-clause-cut_off g c clean has =
    IfErr-weaker c.query_all.result _ _ (λ e. all_cut (state g.S.Store c.args.conn.now) (state g.S.Store c.query_all.new.self) e has) (c.query_all.ensures.err clean)
