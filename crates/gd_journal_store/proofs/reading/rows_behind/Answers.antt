use Rattle.std.proofs.Common.{SFits, w64, rules}
use Rattle.std.proofs.lemmas.Int.{to_z-of_z}
use Rattle.std.proofs.lemmas.Result.{IfOk-weaker, IfErr-weaker}
use Rattle.sqlite.specs.Held.{state}
use Rattle.gd_journal_store.proofs.Listing.{shows_part}
use Rattle.gd_journal_store.proofs.Counting.{commits_none}
use Rattle.gd_journal_store.proofs.Refusing.{query_refused}
use Rattle.gd_journal_store.proofs.Texts.{part_text, part_is}
use Rattle.gd_journal_store.proofs.reading.rows_behind.Goals as goal

pub returns-clause-shown : goal.returns-clause-shown
returns-clause-shown g c clean has =
    let fits : SFits w64 c.last_of.result = search rules in
    let shown = rw (c.params-to_sql.ensures, c.params-to_sql-2.ensures, to_z-of_z w64 c.last_of.result fits, c.last_of.ensures) at (c.query_all.ensures.ok clean) in
    IfOk-weaker c.query_all.result _ _ (λ rows. shows_part (state g.S.Store c.args.conn.now) (state g.S.Store c.query_all.new.self) c.args.after c.args.count rows.items has) shown

pub returns-clause-refused : goal.returns-clause-refused
returns-clause-refused g c clean =
    IfErr-weaker c.query_all.result _ _ (λ e. query_refused (state g.S.Store c.args.conn.now) (state g.S.Store c.query_all.new.self) part_text _ e) (c.query_all.ensures.err clean)

pub returns-clause-survives : goal.returns-clause-survives
returns-clause-survives g c has =
    commits_none part_text part_is.2 _ (state g.S.Store c.args.conn.now) (state g.S.Store c.query_all.new.self) has c.query_all.ensures.survives
