use Rattle.std.proofs.Common.{◌≡◌, ◌≤◌, ◌+◌, ◌-◌, length}
use Rattle.std.specs.Vec.{vec_len, vec_capacity}
use Rattle.sqlite.specs.Held.{state}
use Rattle.sqlite.specs.State.{HasCleanDisk}
use Rattle.gd_board.specs.Known.{StaysKnown}
use Rattle.gasday_archive.specs.Keeping.{IsKnownIn}
use Rattle.gasday_archive.proofs.Keeping.{SoFar}
use Rattle.gasday_archive.proofs.keeps.keep_all.Given as goal

-- The postings so far were kept, or were there before, and there is room for the rows of the others.
abbrev pub invariant-cycles : goal.invariant-cycles
invariant-cycles g l = record {
  board : l.note.cells ≡ l.board;
  stays : StaysKnown l.fn.note l.note;
  clean : HasCleanDisk (state g.S.Store l.conn) → HasCleanDisk (state g.S.Store l.fn.conn);
  kept : HasCleanDisk (state g.S.Store l.conn) → SoFar g.S.Store l.is_strict (IsKnownIn l.fn.note) l.cycles l.cycle-index l.fn.conn l.conn l.fn.told.items l.told.items l.status;
  room : vec_len l.told + (length l.cycles - l.cycle-index) ≤ vec_capacity l.told;
}
