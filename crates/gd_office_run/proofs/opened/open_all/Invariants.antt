use Rattle.std.proofs.Common.{◌≡◌, map, take}
use Rattle.gd_office_run.specs.Runs.{opened, asked}
use Rattle.gd_office_run.proofs.opened.open_all.Given as goal

abbrev pub invariant-loop-row : goal.invariant-loop-row
invariant-loop-row g l = map opened l.sessions.items ≡ map asked (take l.row-index l.rows)
