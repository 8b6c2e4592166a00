use Rattle.std.proofs.Common.{map, sym}
use Rattle.gd_journal_store.specs.Pieces.{shown}
use Rattle.gd_journal_store.proofs.Numbers.{same_pieces}
use Rattle.gd_journal_store.proofs.laws.pieces_are_one.Goals as goal

pub returns : goal.returns
returns c ps qs trees p q = sym (same_pieces (map shown (trees 0)) ps qs p q)
