use Rattle.std.proofs.Common.{length}
use Rattle.gd_journal_store.specs.Seen.{seen}
use Rattle.gd_serving.proofs.Fits.{IsFitting}
use Rattle.gd_serving.proofs.fitting.fits.Given as goal

-- The lines so far gave what the piece begins with.
abbrev pub invariant-lines : goal.invariant-lines
invariant-lines g l = IsFitting g.D.TakesLines.gives l.fn.desk (seen l.fn.piece) l.fn.next l.desk l.bytes l.rows l.told l.next

abbrev pub decreases-lines : goal.decreases-lines
decreases-lines g l = length l.bytes
