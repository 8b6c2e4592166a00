use Rattle.std.proofs.Common.{rules, ◌<◌, length}
use Rattle.gd_archive.specs.Soundness.{IsLabelled}
use Rattle.gd_archive_store.proofs.Inside.{all_more}
use Rattle.gd_archive.proofs.auditing.label_all.Goals as goal

pub rows-preserved : goal.rows-preserved
rows-preserved c =
    let low : c.rows.row-index < length c.args.rows.now = search rules in
    all_more IsLabelled c.args.rows.now c.rows.row-index c.row-item.result c.rows.invariant low c.row-item.is
    (record { label = c.in_ok-of.field-0; labelled = c.in_ok-of.ensures })
