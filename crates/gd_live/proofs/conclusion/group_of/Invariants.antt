use Rattle.std.proofs.Common.{length}
use Rattle.gd_live.specs.Stands.{IsGroup}
use Rattle.gd_live.proofs.conclusion.group_of.Given as goal

-- the rows so far are a group's
abbrev pub invariant-rows : goal.invariant-rows
invariant-rows l = IsGroup (length l.group.rows) l.group
