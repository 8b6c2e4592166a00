use Rattle.std.proofs.Common.{◌≡◌, ◌+◌, drop}
use Rattle.gd_text.specs.Building.{built_from}
use Rattle.gd_text.specs.Members.{member_step, IsFor}
use Rattle.gd_text.proofs.members.members_of.Given as goal

-- What the rows that are left make of the set is what all of them make of the one it was.
abbrev pub invariant-rows : goal.invariant-rows
invariant-rows l = record {
  built : built_from (member_step l.system) (l.index + 1) l.table (drop l.index l.rows) ≡ built_from (member_step l.system) 1 l.initial.table l.rows;
  shaped : IsFor l.system l.table;
}
