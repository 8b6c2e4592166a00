use Rattle.std.proofs.Common.{◌≡◌, ◌≤◌, ◌+◌, ◌*◌, length}
use Rattle.gd_rules.specs.Limits.{classes}
use Rattle.gd_system.specs.Pipeline.{elements_of}
use Rattle.gd_day.specs.Calls.{calls_of}
use Rattle.gd_day.specs.Groups.{checked_calls}
use Rattle.gd_day.specs.Marks.{AreBefore}
use Rattle.gd_day.proofs.CallGroups.{calls_left}
use Rattle.gd_day.proofs.group.check_calls.Given as goal

-- The calls that are left, the group of the next one begun, are checked as all are; and no mark is of that group.
abbrev pub invariant-rows : goal.invariant-rows
invariant-rows l = record {
  left : checked_calls l.system (calls_left l.rows l.start l.at) ≡ checked_calls l.system (calls_of l.rows);
  begun : l.start ≤ l.at;
  before : AreBefore (l.start + 1) l.last.items;
  sized : length l.last.items ≡ classes * length (elements_of l.system);
}
