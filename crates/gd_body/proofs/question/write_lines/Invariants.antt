use Rattle.std.proofs.Common.{◌≡◌, ◌++◌, drop, map, string_bytes}
use Rattle.gd_body.specs.Rows.{lines_of, line_row, line_rows}
use Rattle.gd_body.proofs.question.write_lines.Given as goal

-- The rows so far and those of the lines that are left are all rows.
abbrev pub invariant-lines : goal.invariant-lines
invariant-lines l =
    string_bytes l.text ++ lines_of (map (line_row l.question.pipeline) (drop l.at l.question.asked.lines))
    ≡ string_bytes l.fn.text ++ lines_of (line_rows l.question)
