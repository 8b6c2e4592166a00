use Rattle.std.proofs.Common.{◌≡◌, ◌-◌, ℕ}
use Rattle.gd_book.specs.Kept.{Kept}
use Rattle.gd_live.specs.Stands.{no_group, Room, Stand}
use Rattle.gd_text_part.specs.declared.input.TheConstants.{MAX_BYTES}
use Rattle.gd_text_part.specs.declared.records.TheConstants.{MAX_ROWS}
use Rattle.gasday_live.specs.Books.{stand_behind}
use Rattle.gasday_live.proofs.opening.Opened.into_desk.Goals as goal

stands_behind : (s : Stand) (book : Kept) (count size rows bytes : ℕ) (room : Room) → s ≡ record { day = book.day; history = book.history; group = no_group; number = count; room = room } → room ≡ record { rows = rows; bytes = bytes }
    → rows ≡ MAX_ROWS - count → bytes ≡ MAX_BYTES - size → s ≡ stand_behind book count size
stands_behind s book count size rows bytes room is has rows_are bytes_are = cc

pub returns : goal.returns
returns c =
    stands_behind _ c.args.self.book c.args.self.rows c.args.self.bytes _ _ _ c.new.ensures c.new-room.ensures c.saturating_sub-rows.ensures c.saturating_sub.ensures
