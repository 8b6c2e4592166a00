use Rattle.std.proofs.Common.{◌≡◌, ◌+◌}
use Rattle.gd_serving.proofs.Again.{IsAgain}
use Rattle.gd_serving.proofs.replaying.take_pieces.Given as goal

-- The pieces so far replay, and this is the number of the last one.
abbrev pub invariant-pieces : goal.invariant-pieces
invariant-pieces g l = record {
  number_is : l.number ≡ l.after + l.piece-index;
  again : IsAgain g.D.TakesLines.gives l.fn.desk l.all l.fn.next l.piece-index l.desk l.next;
}
