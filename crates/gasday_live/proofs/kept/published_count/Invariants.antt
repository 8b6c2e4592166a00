use Rattle.std.proofs.Common.{◌≡◌, ◌≤◌, count_by, take}
use Rattle.gasday_live.specs.Audits.{is_published}
use Rattle.gasday_live.proofs.kept.published_count.Given as goal

-- those of the events so far
abbrev pub invariant-events : goal.invariant-events
invariant-events l = record {
  is : l.count ≡ count_by (λ e. is_published e.1) (take l.event-index l.history);
  few : l.count ≤ l.event-index;
}
