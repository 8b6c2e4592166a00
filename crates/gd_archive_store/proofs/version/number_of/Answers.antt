use Rattle.std.proofs.Common.{◌≡◌, length, get_or, ap, ◌∙◌, rules}
use Rattle.sqlite.specs.Held.{state}
use Rattle.gd_archive_store.proofs.Reading.{version_row, one_row, unread, err_is}
use Rattle.gd_archive_store.proofs.version.number_of.Goals as goal

pub returns-then-is_empty-clause-read : goal.returns-then-is_empty-clause-read
returns-then-is_empty-clause-read g c clean has =
    let items = c.in_ok-rows.rows.items in
    let shown = c.in_ok-rows.ensures.shown clean has in
    let none : length items ≡ 0 = search rules in
    (λ _. unread (state g.S.Store c.args.conn.now).now items shown.0 none, shown.1)

pub returns-in_default-clause-cut_off : goal.returns-in_default-clause-cut_off
returns-in_default-clause-cut_off g c clean n low says =
    let shown = c.in_ok-rows.ensures.shown clean says.table in
    let one = c.as_slice.ensures.value ∙ one_row (state g.S.Store c.args.conn.now).now c.in_ok-rows.rows.items n shown.0 says.version in
    let single : length c.as_slice.result.now ≡ 1 = ap length one in
    absurd (search rules)

pub returns-in_err-number-clause-cut_off : goal.returns-in_err-number-clause-cut_off
returns-in_err-number-clause-cut_off g c clean =
    err_is _ c.from_residual-in_err-number.result c.in_err-number.field-0.0 c.from_residual-in_err-number.ensures.1 (λ n low says.
    let shown = c.in_ok-rows.ensures.shown clean says.table in
    let one = c.as_slice.ensures.value ∙ one_row (state g.S.Store c.args.conn.now).now c.in_ok-rows.rows.items n shown.0 says.version in
    c.in_err-number.ensures.cut_off n low (c.row-item.is ∙ ap (λ rows. get_or rows 0 c.row-item.result) one))

pub returns-clause-read : goal.returns-clause-read
returns-clause-read g c clean has =
    let shown = c.in_ok-rows.ensures.shown clean has in (
      record {
        table = has;
        version =
            version_row (state g.S.Store c.args.conn.now).now c.in_ok-rows.rows.items c.as_slice.result.now c.row-item.result c.in_ok-number.number shown.0 c.as_slice.ensures.value c.in-len1.len_at_least
            c.in-len1.len_below c.row-item.is c.in_ok-number.ensures.ok;
      },
      shown.1,
    )
