use Rattle.std.proofs.Common.{◌≡◌, drop}
use Rattle.gasday_office.specs.Phases.{phases_of, phases_with}
use Rattle.gasday_office.proofs.phases.phases_of.Given as goal

-- The phases so far, and those that are left, are all.
abbrev pub invariant-rows : goal.invariant-rows
invariant-rows l = phases_with l.phases.items l.sessions.items (drop l.index l.rows) ≡ phases_of l.rows
