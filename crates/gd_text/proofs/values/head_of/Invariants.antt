use Rattle.std.proofs.Common.{◌≡◌, drop}
use Rattle.gd_text.specs.Values.{head_of}
use Rattle.gd_text.proofs.values.head_of.Given as goal

-- No head stands so far.
abbrev pub invariant-rows : goal.invariant-rows
invariant-rows l = head_of (drop l.row-index l.rows) ≡ head_of l.rows
