use Rattle.std.proofs.Common.{◌≡◌, take}
use Rattle.gd_machine.specs.History.{schedules}
use Rattle.gd_rounds.specs.Carried.{latest}
use Rattle.gd_rounds.proofs.carried.last_published.Given as goal

-- what is in effect behind the events so far
abbrev pub invariant-events : goal.invariant-events
invariant-events l = l.quantities ≡ latest (schedules (take l.event-index l.history))
