use Rattle.std.specs.Prelude.{map}
use Rattle.std.specs.List.{IsDistinct, All}
use Rattle.std.proofs.Common.{◌≡◌, ◌≤◌, length}
use Rattle.gd_rules.specs.Lines.{same_key}
use Rattle.gd_day.specs.Carrying.{keys}
use Rattle.gasday_office.specs.Days.{opened, opened_after, days_of}
use Rattle.gasday_office.proofs.Cutting.{blocks_left}
use Rattle.gasday_office.proofs.days.days_of.Given as goal

-- The blocks that are left, the first of them begun, with the days so far are all that the text says.
abbrev pub invariant-rows : goal.invariant-rows
invariant-rows l = record {
  left : opened_after (length l.rows) (map opened l.days.items) (blocks_left l.rows l.start l.headed l.at) ≡ days_of l.rows;
  begun : l.start ≤ l.at;
  distinct : All (λ d. IsDistinct same_key (keys d.carry.items)) l.days.items;
}
