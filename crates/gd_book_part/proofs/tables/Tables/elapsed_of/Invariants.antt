use Rattle.std.proofs.Common.{◌≡◌}
use Rattle.gd_machine.specs.Known.{flowed_until}
use Rattle.gd_book_part.proofs.tables.Tables.elapsed_of.Given as goal

abbrev pub invariant-loop-at : goal.invariant-loop-at
invariant-loop-at l = l.elapsed ≡ flowed_until l.opening l.history l.line l.at
