use Rattle.std.proofs.Common.{◌≡◌, ◌+◌, drop}
use Rattle.gasday_office.specs.Days.{head_at}
use Rattle.gasday_office.proofs.begins.head_at.Given as goal

-- No head stands so far.
abbrev pub invariant-rows : goal.invariant-rows
invariant-rows l = head_at (l.index + 1) (drop l.index l.rows) ≡ head_at 1 l.rows
