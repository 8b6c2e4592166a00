use Rattle.std.proofs.Common.{◌≡◌, []}
use Rattle.sqlite.specs.State.{HasCleanDisk, IsUnchanged, Survives}
use Rattle.sqlite.specs.Held.{state}
use Rattle.sqlite.specs.Given.{HasGiven}
use Rattle.gd_journal_store.specs.Table.{journal}
use Rattle.gd_journal_store.proofs.Counting.{IsCounting}
use Rattle.gd_journal_store.proofs.Texts.{all_text}
use Rattle.gd_journal_store.proofs.reading.count_rows.Given as goal

abbrev pub invariant-rows : goal.invariant-rows
invariant-rows g l =
    let old = state g.S.Store l.fn.conn in
    let now = state g.S.Store l.rows.conn.now in
    (l.rows.conn.ghost_name ≡ l.initial.rows.conn.ghost_name) × (l.fn.conn.schema ≡ journal → Survives old now (λ _. ⊥))
    × (HasCleanDisk now → l.fn.conn.schema ≡ journal → IsCounting (HasGiven g.S.Store all_text [] l.rows.conn.now) l.number × IsUnchanged old now)
