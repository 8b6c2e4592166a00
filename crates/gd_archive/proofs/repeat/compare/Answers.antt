use Rattle.sqlite.specs.Held.{state}
use Rattle.gd_archive.proofs.Repeating.{compares_stopped}
use Rattle.gd_archive.proofs.repeat.compare.Goals as goal

pub returns-in_err-row-clause-compared : goal.returns-in_err-row-clause-compared
returns-in_err-row-clause-compared g c clean =
    compares_stopped (state g.S.Store c.args.conn.now) (state g.S.Store c.find.new.conn) c.args.posting.now c.from_residual.result c.in_err-row.field-0.0 c.from_residual.ensures.1 (c.in_err-row.ensures.found clean)
