use Rattle.std.proofs.Common.{◌≡◌, ◌+◌, ◌++◌, drop, map, string_bytes}
use Rattle.std.specs.List.{enumerate_from}
use Rattle.gd_body.specs.Rows.{lines_of, sched_row, sched_rows}
use Rattle.gd_body.proofs.taken.write_schedule.Given as goal

-- The rows so far and those of the lines that are left are all rows.
abbrev pub invariant-lines : goal.invariant-lines
invariant-lines l =
    string_bytes l.text ++ lines_of (map sched_row (enumerate_from (l.index + 1) (drop l.index l.schedule)))
    ≡ string_bytes l.fn.text ++ lines_of (sched_rows l.schedule)
