use Rattle.std.proofs.Common.{◌≡◌, ◌+◌, drop}
use Rattle.gd_text.specs.Building.{built_from}
use Rattle.gd_day.specs.Marks.{mark_step}
use Rattle.gd_day.proofs.group.check_prices.Given as goal

-- What the rows that are left make of the marks is what all of them make of those that were.
abbrev pub invariant-rows : goal.invariant-rows
invariant-rows l = built_from (mark_step l.system l.first) (l.first + l.index) l.last (drop l.index l.group) ≡ built_from (mark_step l.system l.first) l.first l.initial.last l.group
