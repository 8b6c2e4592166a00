use Rattle.gasday_archive.proofs.Auditing.{archive_audited}
use Rattle.gasday_archive.proofs.opened.audit_archive.Goals as goal

pub returns-clause-told : goal.returns-clause-told
returns-clause-told g c = archive_audited g.S.Store c.args.conn.now c.audit-found.new.conn c.of_audit.result c.audit-found.result c.audit-found.ensures.audited c.of_audit.ensures
