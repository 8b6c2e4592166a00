use Rattle.std.proofs.Common.{◌≡◌, map, take, IsTrue, All}
use Rattle.sqlite.specs.State.{HasCleanDisk, KeepsCommit}
use Rattle.sqlite.specs.Held.{state}
use Rattle.gd_archive_store.specs.Migration.{carried}
use Rattle.gd_archive_store.specs.Stages.{IsBuilt, IsMore}
use Rattle.gd_archive_store.proofs.carry.carry_rows.Given as goal

abbrev pub invariant-loop-row : goal.invariant-loop-row
invariant-loop-row g l =
    let old = state g.S.Store l.fn.tx.conn.now in
    let now = state g.S.Store l.tx.conn.now in
    (l.tx.conn.ghost_name ≡ l.fn.tx.conn.ghost_name) × (HasCleanDisk now → HasCleanDisk old) × (HasCleanDisk now → KeepsCommit old now)
    × (HasCleanDisk now → IsTrue old.in_transaction → IsBuilt old.now → IsMore old.now now.now (map (carried g.R.Rewrite.rewritten) (take l.row-index l.rows)) × IsTrue now.in_transaction)
    × All g.R.Rewrite.IsHeld (take l.row-index l.rows)
