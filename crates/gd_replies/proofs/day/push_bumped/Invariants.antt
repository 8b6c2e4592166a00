use Rattle.std.proofs.Common.{◌≡◌, ◌++◌, drop}
use Rattle.gd_replies.specs.Days.{bumped_rows}
use Rattle.gd_replies.proofs.day.push_bumped.Given as goal

-- The rows so far and those of the lines that are left are all rows.
abbrev pub invariant-lines : goal.invariant-lines
invariant-lines l = l.rows.items ++ bumped_rows (drop l.line-index l.bumped) ≡ l.fn.rows.items ++ bumped_rows l.bumped
