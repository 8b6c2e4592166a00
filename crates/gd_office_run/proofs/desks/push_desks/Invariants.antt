use Rattle.std.proofs.Common.{◌≡◌, ◌+◌, ◌++◌, drop}
use Rattle.gd_office_run.specs.Runs.{desks_rows}
use Rattle.gd_office_run.proofs.desks.push_desks.Given as goal

-- What was told, with what is left to tell.
abbrev pub invariant-loop-at : goal.invariant-loop-at
invariant-loop-at l = l.rows.items ++ desks_rows (l.at + 1) (drop l.at l.desks) ≡ l.fn.rows.items ++ desks_rows 1 l.desks
