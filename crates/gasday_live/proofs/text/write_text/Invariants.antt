use Rattle.std.proofs.Common.{◌-◌}
use Rattle.sqlite.specs.Held.{state}
use Rattle.gasday_live.proofs.ReadPieces.{IsWriting}
use Rattle.gasday_live.proofs.text.write_text.Given as goal

-- the rows of so many pieces are written
abbrev pub invariant-batches : goal.invariant-batches
invariant-batches g l =
    IsWriting (state g.S.Store l.initial.conn) (state g.S.Store l.conn) (g.W.Write.contents l.fn.writer) (g.W.Write.contents l.writer) l.at

abbrev pub decreases-batches : goal.decreases-batches
decreases-batches g l = l.count - l.at
