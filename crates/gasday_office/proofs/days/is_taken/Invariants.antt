use Rattle.std.specs.Prelude.{map}
use Rattle.std.proofs.Common.{◌≡◌, drop}
use Rattle.gasday_office.specs.Days.{is_taken, opened}
use Rattle.gasday_office.proofs.days.is_taken.Given as goal

-- No day so far has it.
abbrev pub invariant-days : goal.invariant-days
invariant-days l = is_taken (map opened (drop l.day-index l.days)) l.fn.book ≡ is_taken (map opened l.days) l.fn.book
