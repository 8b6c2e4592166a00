use Rattle.std.proofs.Common.{◌≡◌, ◌++◌, drop}
use Rattle.gd_office_run.specs.Receipts.{session_rows}
use Rattle.gd_office_run.proofs.receipts.push_session.Given as goal

-- The rows so far and those of the receipts that are left are all rows.
abbrev pub invariant-receipts : goal.invariant-receipts
invariant-receipts l = l.rows.items ++ session_rows l.session (drop l.receipt-index l.receipts) ≡ l.fn.rows.items ++ session_rows l.session l.receipts
