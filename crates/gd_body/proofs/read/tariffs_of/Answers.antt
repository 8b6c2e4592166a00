use Rattle.std.proofs.lemmas.Result.{err_from_is_err_and}
use Rattle.gd_body.proofs.Reading.{tariffs_refused, tariffs_told}
use Rattle.gd_body.proofs.read.tariffs_of.Goals as goal

pub returns-in_err-table : goal.returns-in_err-table
returns-in_err-table c =
    let p = err_from_is_err_and c.from_residual.result c.from_residual.ensures.1 in
    rw (p.1, p.2) (tariffs_refused _ c.args.rows.now c.args.system.now c.in_err-table.ensures)

pub returns : goal.returns
returns c = tariffs_told c.args.rows.now c.args.system.now c.in_ok-table.table c.in_ok-prices.field-0 c.in_ok-table.ensures c.in_ok-prices.ensures
