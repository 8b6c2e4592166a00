use Rattle.std.proofs.Common.{◌≡◌}
use Rattle.gd_book_part.specs.Asking.{asked_until}
use Rattle.gd_book_part.proofs.tables.Tables.ask.Given as goal

abbrev pub invariant-loop-line : goal.invariant-loop-line
invariant-loop-line l = l.builder ≡ asked_until l.opening l.history l.fn.round l.line
