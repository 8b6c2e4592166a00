use Rattle.std.proofs.Common.{◌++◌, ◌+◌, ◌-◌, length}
use Rattle.std.specs.Io.KnownBytes.{Consumes}
use Rattle.gd_text_part.specs.declared.input.TheConstants.{MAX_BYTES}
use Rattle.gd_live.specs.Openings.{GoesOn}
use Rattle.gd_live.proofs.opening.read_opening.Given as goal

abbrev pub invariant-reads : goal.invariant-reads
invariant-reads g l = record {
  goes : GoesOn l.text.items l.begun.items;
  told : Consumes (g.R.Read.remaining l.fn.reader) (g.R.Read.remaining l.reader) (l.text.items ++ l.begun.items);
}

-- each read gives a byte at least
abbrev pub decreases-reads : goal.decreases-reads
decreases-reads g l = MAX_BYTES + 1 - (length l.text.items + length l.begun.items)
