use Rattle.std.proofs.Common.{◌≡◌, ◌+◌, ◌++◌, drop}
use Rattle.gd_office_part.specs.Sending.{lists_of}
use Rattle.gd_office_run.specs.Receipts.{sessions_rows}
use Rattle.gd_office_run.proofs.receipts.push_sessions.Given as goal

-- The rows so far and those of the lists that are left are all rows.
abbrev pub invariant-lists : goal.invariant-lists
invariant-lists l =
    l.rows.items ++ sessions_rows (l.first + l.at) (lists_of (drop l.at l.lists)) ≡ l.fn.rows.items ++ sessions_rows l.first (lists_of l.lists)
