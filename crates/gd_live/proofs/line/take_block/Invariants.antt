use Rattle.std.proofs.Common.{◌≡◌, ◌++◌, length}
use Rattle.gd_live.specs.Openings.{GoesOn}
use Rattle.gd_live.proofs.line.take_block.Given as goal

abbrev pub invariant-lines : goal.invariant-lines
invariant-lines l = record {
  goes : GoesOn l.text.items l.begun.items;
  parts : (l.text.items ++ l.begun.items) ++ l.rest ≡ (l.fn.text.items ++ l.fn.begun.items) ++ l.block;
}

abbrev pub decreases-lines : goal.decreases-lines
decreases-lines l = length l.rest
