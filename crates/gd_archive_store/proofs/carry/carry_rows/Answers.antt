use Rattle.std.proofs.Common.{◌<◌, length, rules, ◌∙◌}
use Rattle.sqlite.specs.Held.{state}
use Rattle.gd_archive_store.specs.Migration.{carried}
use Rattle.gd_archive_store.proofs.Inside.{carry_more, keeps_then, all_more}
use Rattle.gd_archive_store.proofs.carry.carry_rows.Goals as goal

pub loop-row-preserved : goal.loop-row-preserved
loop-row-preserved g c =
    let was = c.loop-row.invariant in
    let one = c.in_ok-carry_row.ensures in
    let old = state g.S.Store c.args.tx.now.conn.now in
    let mid = state g.S.Store c.loop-row.tx.conn.now in
    let new = state g.S.Store c.carry_row.new.tx.conn.now in
    let low : c.loop-row.row-index < length c.args.rows.now = search rules in (
      one.same_reference ∙ was.0,
      λ clean. was.1 (one.clean clean),
      λ clean. keeps_then old mid new (was.2 (one.clean clean)) (one.kept clean),
      λ clean inside built.
          let before = was.3 (one.clean clean) inside built in
          let step = one.entered clean before.1 before.0.schema in
          (carry_more (carried g.R.Rewrite.rewritten) old.now mid.now new.now c.args.rows.now c.loop-row.row-index c.row-item.result before.0 step.0 low c.row-item.is, step.1),
      all_more g.R.Rewrite.IsHeld c.args.rows.now c.loop-row.row-index c.row-item.result was.4 low c.row-item.is one.held,
    )
