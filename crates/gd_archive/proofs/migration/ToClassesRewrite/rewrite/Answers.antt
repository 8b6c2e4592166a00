use Rattle.std.proofs.Common.{rules, ◌≡◌, Some}
use Rattle.sqlite.specs.Order.{column}
use Rattle.sqlite_value.specs.Value.{owned}
use Rattle.gd_body.specs.Body.{IsBody}
use Rattle.gd_body.specs.Spread.{without_spread}
use Rattle.gd_archive.specs.Soundness.{posting_at}
use Rattle.gd_archive.proofs.Kept.{at_row, is_carried}
use Rattle.gd_archive.proofs.migration.ToClassesRewrite.rewrite.Goals as goal

pub returns-in_ok-from_slice-in-Ok-clause-held : goal.returns-in_ok-from_slice-in-Ok-clause-held
returns-in_ok-from_slice-in-Ok-clause-held c =
    let row = c.args.row.now in
    let book = c.in_ok-book.book in
    let cycle = c.in_ok-cycle.cycle in
    let round : owned c.in_ok-get_ref.field-0 ≡ column row 2 = search rules in
    let body : owned c.in_ok-get_ref-2.field-0 ≡ column row 3 = search rules in
    let found : posting_at book cycle (owned c.in_ok-get_ref.field-0) (owned c.in_ok-get_ref-2.field-0) ≡ Some c.in-Ok.posting = search rules in
    let written : IsBody (without_spread c.in-Ok.posting) c.in_ok-body-in-Ok.body.items = search rules in
    is_carried row c.in-Ok.posting c.in_ok-body-in-Ok.body.items
    (at_row row book cycle _ _ (Some c.in-Ok.posting) c.in_ok-book.ensures c.in_ok-cycle.ensures round body found) written
