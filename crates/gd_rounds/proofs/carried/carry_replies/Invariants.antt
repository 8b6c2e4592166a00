use Rattle.std.proofs.Common.{◌≡◌}
use Rattle.gd_rounds.proofs.Rows.{rows_until}
use Rattle.gd_rounds.proofs.carried.carry_replies.Given as goal

-- the rows of the lines so far
abbrev pub invariant-lines : goal.invariant-lines
invariant-lines l = l.rows.items ≡ rows_until l.key-items l.quantities l.line
