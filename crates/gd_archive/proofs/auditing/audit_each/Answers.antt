use Rattle.sqlite.specs.Held.{state}
use Rattle.gd_archive.proofs.Refused.{each_stopped}
use Rattle.gd_archive.proofs.auditing.audit_each.Goals as goal

pub returns-in_err-rows-clause-fault : goal.returns-in_err-rows-clause-fault
returns-in_err-rows-clause-fault g c clean =
    each_stopped (state g.S.Store c.args.conn.now) (state g.S.Store c.all.new.conn) c.from_residual.result c.in_err-rows.field-0.0 c.from_residual.ensures.1 (c.in_err-rows.ensures.stopped clean)
