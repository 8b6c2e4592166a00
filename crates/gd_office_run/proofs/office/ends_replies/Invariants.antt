use Rattle.std.proofs.Common.{◌≡◌, ◌+◌, ◌++◌, drop}
use Rattle.gd_office_run.specs.RunRows.{ends_rows}
use Rattle.gd_office_run.proofs.office.ends_replies.Given as goal

-- What was told, with what is left to tell.
abbrev pub invariant-loop-at : goal.invariant-loop-at
invariant-loop-at l = l.rows.items ++ ends_rows (l.at + 1) (drop l.at l.ends) ≡ ends_rows 1 l.ends
