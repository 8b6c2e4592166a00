use Rattle.std.proofs.Common.{◌≡◌, ◌+◌, length, map, take}
use Rattle.gd_journal_store.specs.Pieces.{numbered}
use Rattle.gd_journal_store.specs.Rows.{shape}
use Rattle.gd_journal_store.specs.Seen.{seen}
use Rattle.gd_journal_store.proofs.reading.all_pieces.Given as goal

abbrev pub invariant-rows : goal.invariant-rows
invariant-rows l = record {
  read : map shape (take l.row-index l.rows) ≡ numbered (l.after + 1) (map seen l.pieces.items);
  count : length l.pieces.items ≡ l.row-index;
  number : l.number ≡ l.after + l.row-index;
}
