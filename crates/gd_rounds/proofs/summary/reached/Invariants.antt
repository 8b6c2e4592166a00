use Rattle.std.proofs.Common.{◌≡◌, take}
use Rattle.gd_rounds.specs.Summaries.{reached}
use Rattle.gd_rounds.proofs.summary.reached.Given as goal

-- the last of the events so far
abbrev pub invariant-events : goal.invariant-events
invariant-events l = l.reached ≡ reached (take l.event-index l.history)
