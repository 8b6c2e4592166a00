use Rattle.std.proofs.Common.{◌≡◌, ◌≤◌, IsTrue}
use Rattle.sqlite.specs.State.{HasCleanDisk, KeepsCommit}
use Rattle.sqlite.specs.Held.{state}
use Rattle.gd_archive_store.specs.Tables.{first_tables}
use Rattle.gd_archive_store.specs.Stages.{IsGrown}
use Rattle.gd_archive_store.proofs.build.create_from.Given as goal

abbrev pub invariant-tables : goal.invariant-tables
invariant-tables g l =
    let old = state g.S.Store l.fn.tx.conn.now in
    let now = state g.S.Store l.tx.conn.now in
    (l.tx.conn.ghost_name ≡ l.fn.tx.conn.ghost_name) × (HasCleanDisk now → HasCleanDisk old) × (HasCleanDisk now → KeepsCommit old now)
    × (HasCleanDisk now → IsTrue old.in_transaction → l.count ≤ 3 → old.now.schema ≡ first_tables l.count → IsGrown l.count l.place old.now now.now × IsTrue now.in_transaction)
