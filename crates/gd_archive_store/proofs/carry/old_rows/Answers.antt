use Rattle.std.proofs.Common.{sym, subst}
use Rattle.std.proofs.lemmas.Result.{IfOk-weaker}
use Rattle.sqlite.specs.Held.{state}
use Rattle.sqlite.specs.Schema.{Schema}
use Rattle.sqlite.specs.Listing.{understood}
use Rattle.sqlite.proofs.Callers.{IsPlain}
use Rattle.gd_archive_store.proofs.Texts.{old_text, old_is}
use Rattle.gd_archive_store.proofs.Steps.{shows_all}
use Rattle.gd_archive_store.proofs.Inside.{query_keeps}
use Rattle.gd_archive_store.proofs.carry.old_rows.Goals as goal

pub returns-clause-shown : goal.returns-clause-shown
returns-clause-shown g c clean has =
    IfOk-weaker c.query_all.result _ _ (λ rows. shows_all (state g.S.Store c.args.tx.now.conn.now) (state g.S.Store c.query_all.new.self.conn.now) rows.items has) (c.query_all.ensures.ok clean)

pub returns-clause-kept : goal.returns-clause-kept
returns-clause-kept g c clean has =
    query_keeps _ (λ rows. rows.items) old_text _ (state g.S.Store c.args.tx.now.conn.now) (state g.S.Store c.query_all.new.self.conn.now) c.query_all.result
    (subst (λ (s : Schema). IsPlain (understood s old_text)) (sym has) old_is.2) (c.query_all.ensures.ok clean) (c.query_all.ensures.err clean)
