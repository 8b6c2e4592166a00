use Rattle.std.proofs.Common.{◌≡◌, ◌++◌, drop}
use Rattle.gd_body.specs.Body.{bumped_of}
use Rattle.gd_body.proofs.read.bumped_of.Given as goal

-- The lines so far, and those of the rows that are left.
abbrev pub invariant-rows : goal.invariant-rows
invariant-rows l = l.lines.items ++ bumped_of (drop l.row-index l.rows) ≡ bumped_of l.rows
