use Rattle.std.proofs.Common.{map, take}
use Rattle.std.specs.Io.KnownBytes.{Appends}
use Rattle.gd_journal_store.specs.Seen.{seen}
use Rattle.gd_serving.specs.Runs.{rows_text}
use Rattle.gasday_live.proofs.text.write_pieces.Given as goal

-- the rows of the pieces so far are written
abbrev pub invariant-pieces : goal.invariant-pieces
invariant-pieces g l =
    Appends (g.W.Write.contents l.fn.writer) (g.W.Write.contents l.writer) (rows_text (map seen (take l.piece-index l.all)))
