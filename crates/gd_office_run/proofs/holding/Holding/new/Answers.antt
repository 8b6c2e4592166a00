use Rattle.gd_office_run.proofs.Shares.{holds_nothing}
use Rattle.gd_office_run.proofs.holding.Holding.new.Goals as goal

pub returns-clause-nothing : goal.returns-clause-nothing
returns-clause-nothing g c k below =
    let s = c.in_ok-lists_for in let l = c.in_ok-lists_for-2 in let n = c.in_ok-lists_for-3 in let d = c.in_ok-lists_for-4 in
    holds_nothing {J = g.row.J.Denot} (record { sessions = s.field-0; lists = l.field-0; numbers = n.field-0; desks = d.field-0 }) c.args.slots k
    (s.ensures.len, l.ensures.len, n.ensures.len, d.ensures.len) s.ensures.empty l.ensures.empty n.ensures.empty d.ensures.empty below
