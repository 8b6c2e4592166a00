use Rattle.std.proofs.Common.{◌≡◌}
use Rattle.gd_desk.proofs.closing.last_posting.Given as goal

abbrev pub invariant-loop-cycle : goal.invariant-loop-cycle
invariant-loop-cycle l = l.note.cells ≡ l.fn.note.cells
