use Rattle.std.proofs.Common.{◌≡◌, ◌++◌, drop, string_bytes}
use Rattle.gd_body.specs.Rows.{lines_of, bumped_rows}
use Rattle.gd_body.proofs.taken.write_bumped.Given as goal

-- The rows so far and those of the lines that are left are all rows.
abbrev pub invariant-lines : goal.invariant-lines
invariant-lines l = string_bytes l.text ++ lines_of (bumped_rows (drop l.line-index l.bumped)) ≡ string_bytes l.fn.text ++ lines_of (bumped_rows l.bumped)
