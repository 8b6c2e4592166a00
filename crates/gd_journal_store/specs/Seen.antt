-- The piece that a value in memory is.
use Rattle.gd_journal_store.specs.Pieces.{Piece}
use Rattle.gd_journal_store.specs.declared.reading.Piece.{Piece as InMemory}

abbrev pub seen : InMemory → Piece
seen p = (p.rows.items, p.told.items)
