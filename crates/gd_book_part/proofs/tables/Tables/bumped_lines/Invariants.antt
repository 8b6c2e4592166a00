use Rattle.std.proofs.Common.{◌≡◌, nat_lt, map}
use Rattle.std.specs.Prelude.{filter}
use Rattle.std.specs.List.{range_with_len}
use Rattle.gd_machine.specs.Asking.{bumped_by}
use Rattle.gd_book_part.proofs.tables.Tables.bumped_lines.Given as goal

-- The bumped lines so far.
abbrev pub invariant-loop-line : goal.invariant-loop-line
invariant-loop-line l = l.lines ≡ filter (λ b. nat_lt 0 b.1) (map (λ n. (n, bumped_by l.opening l.history l.schedule n)) (range_with_len 0 l.line))
