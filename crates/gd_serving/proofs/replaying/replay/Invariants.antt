use Rattle.std.proofs.Common.{◌-◌}
use Rattle.sqlite.specs.Held.{state}
use Rattle.gd_serving.proofs.Again.{IsReplaying}
use Rattle.gd_serving.proofs.replaying.replay.Given as goal

-- So many pieces replay, and the journal is as it was.
abbrev pub invariant-batches : goal.invariant-batches
invariant-batches g l =
    IsReplaying g.D.TakesLines.gives l.fn.desk l.after l.count (state g.S.Store l.fn.conn) (state g.S.Store l.conn) l.at l.desk l.next

abbrev pub decreases-batches : goal.decreases-batches
decreases-batches g l = l.count - l.at
