use Rattle.std.proofs.Common.{rules, ◌<◌, All, length, subst}
use Rattle.std.proofs.lemmas.List.{take_all}
use Rattle.gd_archive.specs.Soundness.{IsSound}
use Rattle.gd_archive_store.proofs.Inside.{all_more}
use Rattle.gd_archive.proofs.auditing.test_all.Goals as goal

pub rows-preserved : goal.rows-preserved
rows-preserved c =
    let low : c.rows.row-index < length c.args.rows.now = search rules in
    all_more IsSound c.args.rows.now c.rows.row-index c.row-item.result c.rows.invariant low c.row-item.is c.in_ok-test_row.ensures.ok

pub returns-clause-ok : goal.returns-clause-ok
returns-clause-ok c =
    subst (All IsSound) (take_all c.rows.row-index c.args.rows.now c.rows-test.false) c.rows.invariant
