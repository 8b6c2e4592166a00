use Rattle.std.proofs.Common.{◌≡◌, ◌++◌, drop}
use Rattle.gd_text.specs.Values.{quantities_of}
use Rattle.gd_text.proofs.values.quantities_of.Given as goal

-- The quantities so far, and those of the rows that are left.
abbrev pub invariant-rows : goal.invariant-rows
invariant-rows l = l.quantities.items ++ quantities_of (drop l.row-index l.rows) ≡ quantities_of l.rows
