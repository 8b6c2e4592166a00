use Rattle.std.proofs.Common.{◌≡◌, drop}
use Rattle.gd_day.specs.Heads.{first_head}
use Rattle.gd_day.proofs.head.first_head.Given as goal

-- No head stands so far.
abbrev pub invariant-rows : goal.invariant-rows
invariant-rows l = first_head (drop l.row-index l.rows) ≡ first_head l.rows
