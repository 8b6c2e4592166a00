use Rattle.std.proofs.Common.{◌≡◌, false, sym, rules}
use Rattle.sqlite.specs.Held.{state}
use Rattle.gd_journal_store.proofs.Committing.{settled_on}
use Rattle.gd_journal_store.proofs.laws.settled.Goals as goal

pub returns : goal.returns
returns g c holds up ps keeps =
    let now = state g.S.Store c.args.conn.now in
    let mode : now.in_transaction ≡ false = search rules in
    settled_on ps now (g.met.S.Store.settled c.args.conn.now.store) up mode (sym (c.is_autocommit.ensures.settled holds up)) keeps
