use Rattle.std.proofs.Common.{◌≡◌, ◌+◌, [], drop}
use Rattle.std.specs.List.{IsDistinct}
use Rattle.gd_table.specs.Table.{keys as keys_in}
use Rattle.gd_rules.specs.Lines.{same_key}
use Rattle.gd_text.specs.Building.{built_from}
use Rattle.gd_day.specs.Carrying.{carry_step, keys}
use Rattle.gd_day.proofs.carry.carry_of.Given as goal

-- What the rows that are left make of what is carried is what all of them make of nothing.
abbrev pub invariant-rows : goal.invariant-rows
invariant-rows l = record {
  built : built_from carry_step (l.index + 1) l.carry.items (drop l.index l.rows) ≡ built_from carry_step 1 [] l.rows;
  kept : keys_in l.keys ≡ keys l.carry.items;
  distinct : IsDistinct same_key (keys_in l.keys);
}
