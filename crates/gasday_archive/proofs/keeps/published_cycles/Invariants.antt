use Rattle.std.proofs.Common.{◌≡◌, take}
use Rattle.gasday_archive.specs.Keeping.{published_cycles}
use Rattle.gasday_archive.proofs.keeps.published_cycles.Given as goal

-- the cycles of the events so far
abbrev pub invariant-events : goal.invariant-events
invariant-events l = l.cycles.items ≡ published_cycles (take l.event-index l.history)
