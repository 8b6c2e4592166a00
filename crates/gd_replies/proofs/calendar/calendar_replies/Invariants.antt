use Rattle.std.proofs.Common.{◌≡◌}
use Rattle.gd_replies.specs.Calendars.{cycle_rows}
use Rattle.gd_replies.proofs.calendar.calendar_replies.Given as goal

-- The rows of the cycles so far.
abbrev pub invariant-cycles : goal.invariant-cycles
invariant-cycles l = l.rows.items ≡ cycle_rows l.calendar l.at
