use Rattle.std.proofs.Common.{◌≡◌, ◌+◌, drop}
use Rattle.gd_text.specs.Building.{built_from}
use Rattle.gd_day.specs.Marks.{inside_step}
use Rattle.gd_day.proofs.group.check_members.Given as goal

-- Whether the rows that are left name members tells it of all.
abbrev pub invariant-rows : goal.invariant-rows
invariant-rows l = built_from (inside_step l.system) (l.first + l.index) tt (drop l.index l.group) ≡ built_from (inside_step l.system) l.first tt l.group
