use Rattle.std.proofs.Common.{length}
use Rattle.gd_serving.specs.Seen.{seen}
use Rattle.gd_serving.proofs.Blocks.{IsCutting}
use Rattle.gd_serving.proofs.block.take_block.Given as goal

-- The lines so far were taken, and the rest is still to be cut.
abbrev pub invariant-lines : goal.invariant-lines
invariant-lines g l =
    IsCutting g.D.TakesLines.gives l.fn.begun.items l.fn.block l.fn.desk (seen l.fn.given) l.desk l.begun.items l.rest (seen l.given)

abbrev pub decreases-lines : goal.decreases-lines
decreases-lines g l = length l.rest
