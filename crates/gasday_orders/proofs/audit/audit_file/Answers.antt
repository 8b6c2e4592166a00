use Rattle.std.proofs.Common.{◌≡◌, Bool, true, false, sym, ◌∙◌}
use Rattle.gasday_orders.proofs.Auditing.{book_audited, other_audited}
use Rattle.gasday_orders.proofs.audit.audit_file.Goals as goal

pub returns-then-is_journal-clause-told : goal.returns-then-is_journal-clause-told
returns-then-is_journal-clause-told g c = book_audited g.S.Store c.args.each c.args.conn.now c.audit_book.new.conn c.audit_book.result (c.is_journal.ensures.0 c.if-is_journal.true) c.audit_book.ensures.audited

pub returns-then-each-clause-told : goal.returns-then-each-clause-told
returns-then-each-clause-told g c = other_audited g.S.Store c.args.each c.args.conn.now c.audit_postings.new.conn true c.if-each.true c.audit_postings.result
    (λ is. let bad : ◌≡◌ {A = Bool} true false = sym (c.is_journal.ensures.1 is) ∙ c.if-is_journal.false in cc)
    c.audit_postings.ensures.told

pub returns-clause-told : goal.returns-clause-told
returns-clause-told g c = other_audited g.S.Store c.args.each c.args.conn.now c.audit_archive.new.conn false c.if-each.false c.audit_archive.result
    (λ is. let bad : ◌≡◌ {A = Bool} true false = sym (c.is_journal.ensures.1 is) ∙ c.if-is_journal.false in cc)
    c.audit_archive.ensures.told
