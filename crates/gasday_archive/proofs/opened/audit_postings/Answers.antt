use Rattle.std.proofs.Common.{◌≡◌, IfOk, subst}
use Rattle.gasday_part.specs.AnswerSeen.{answer_seen}
use Rattle.gasday_archive.specs.Archives.{each_told}
use Rattle.gasday_archive.proofs.Auditing.{each_audited, none_audited}
use Rattle.gasday_archive.proofs.opened.audit_postings.Goals as goal

pub returns-in-Ok-clause-told : goal.returns-in-Ok-clause-told
returns-in-Ok-clause-told g c =
    each_audited g.S.Store c.args.conn.now c.audit_each.new.conn c.of_each.result c.in-Ok.findings.items (λ clean. c.in-Ok.ensures.found clean)
    (subst (λ l. IfOk c.of_each.result (λ a. answer_seen a ≡ each_told l)) c.as_slice.ensures.value c.of_each.ensures)

pub returns-in-Err-clause-told : goal.returns-in-Err-clause-told
returns-in-Err-clause-told g c = none_audited g.S.Store c.args.conn.now c.audit_each.new.conn c.of_store_fault.result c.in-Err.fault (λ clean. c.in-Err.ensures.fault clean) c.of_store_fault.ensures
