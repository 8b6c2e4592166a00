use Rattle.std.proofs.Common.{◌≡◌, drop}
use Rattle.gd_text.specs.Days.{first_day}
use Rattle.gd_text.proofs.day.first_day.Given as goal

-- No gas day stands so far.
abbrev pub invariant-rows : goal.invariant-rows
invariant-rows l = first_day (drop l.row-index l.rows) ≡ first_day l.rows
