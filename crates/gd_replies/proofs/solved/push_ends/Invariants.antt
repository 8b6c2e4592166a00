use Rattle.std.proofs.Common.{◌≡◌, ◌++◌, drop}
use Rattle.gd_system.specs.Pipeline.{names_of}
use Rattle.gd_replies.specs.Replies.{inside_rows}
use Rattle.gd_replies.proofs.solved.push_ends.Given as goal

-- The rows so far and those of the points or pools that are left are all rows.
abbrev pub invariant-ends : goal.invariant-ends
invariant-ends l =
    l.rows.items ++ inside_rows l.member (drop l.index (drop l.first (names_of l.system))) (drop l.index l.inside)
    ≡ l.fn.rows.items ++ inside_rows l.member (drop l.first (names_of l.system)) l.inside
