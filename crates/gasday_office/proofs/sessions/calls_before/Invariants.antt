use Rattle.std.proofs.Common.{◌≡◌, ◌++◌, drop}
use Rattle.gasday_office.specs.Phases.{calls_before}
use Rattle.gasday_office.proofs.sessions.calls_before.Given as goal

-- The calls so far, and those that are left, are all.
abbrev pub invariant-rows : goal.invariant-rows
invariant-rows l = l.calls.items ++ calls_before (drop l.row-index l.rows) ≡ calls_before l.rows
