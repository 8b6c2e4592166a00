use Rattle.std.proofs.Common.{◌≡◌, ◌≤◌, take}
use Rattle.gd_rounds.specs.Summaries.{count}
use Rattle.gd_rounds.proofs.summary.count.Given as goal

-- The events so far are counted.
abbrev pub invariant-events : goal.invariant-events
invariant-events l = record {
  is : l.count ≡ count l.counted l.calendar (take l.event-index l.history);
  low : l.count ≤ l.event-index;
}
