use Rattle.std.proofs.Common.{◌≡◌, ◌+◌, drop, length}
use Rattle.gd_system.specs.Pipeline.{elements_of}
use Rattle.gd_text.specs.Building.{built_from}
use Rattle.gd_text.specs.Prices.{price_step}
use Rattle.gd_text.proofs.prices.prices_of.Given as goal

-- What the rows that are left make of the table is what all of them make of the one it was.
abbrev pub invariant-rows : goal.invariant-rows
invariant-rows l = record {
  built : built_from (price_step l.system) (l.index + 1) l.table (drop l.index l.rows) ≡ built_from (price_step l.system) 1 l.initial.table l.rows;
  long : l.table.elements ≡ length (elements_of l.system);
}
