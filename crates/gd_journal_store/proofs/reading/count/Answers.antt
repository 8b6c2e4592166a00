use Rattle.std.proofs.lemmas.Result.{IfOk-weaker}
use Rattle.sqlite.specs.Held.{state}
use Rattle.gd_journal_store.specs.Calls.{KeepsNone}
use Rattle.gd_journal_store.proofs.Settling.{counts, stops}
use Rattle.gd_journal_store.proofs.reading.count.Goals as goal

pub returns-clause-counted : goal.returns-clause-counted
returns-clause-counted g c clean =
    let old = state g.S.Store c.args.conn.now in
    let new = state g.S.Store c.count_rows.new.conn in
    let is = c.in_ok-expect_journal.ensures in
    IfOk-weaker c.count_rows.result _ _ (λ n. counts old new n (g.met.S.Store.settled c.count_rows.new.conn.store) is.journal is.mode is.settled) (c.count_rows.ensures.counted clean is.journal)

pub returns-clause-refused : goal.returns-clause-refused
returns-clause-refused g c clean =
    let old = state g.S.Store c.args.conn.now in
    let is = c.in_ok-expect_journal.ensures in
    stops (KeepsNone old.now) old (state g.S.Store c.count_rows.new.conn) c.count_rows.result is.settled (c.count_rows.ensures.fault clean is.journal) (c.count_rows.ensures.refused clean is.journal)
