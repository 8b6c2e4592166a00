use Rattle.std.proofs.Common.{◌≡◌, length, reverse}
use Rattle.gd_book.specs.Postings.{AllPosted}
use Rattle.gd_machine.specs.Headline.{Holds}
use Rattle.gd_course.proofs.Running.{IsAt}
use Rattle.gd_course.proofs.course.run.Given as goal

-- The calls so far were made, the note is the board's, and what they published is known.
abbrev pub invariant-calls : goal.invariant-calls
invariant-calls g l = record {
  here : IsAt l.fn.book.day l.fn.book.history l.fn.rows.items l.group.items (reverse l.left.items) l.told.items l.book.history;
  day : l.book.day ≡ l.fn.book.day;
  board : l.note.cells ≡ l.board;
  cells : l.note.cells ≡ l.fn.note.cells;
  holds : Holds l.fn.book.day l.book.history;
  posted : AllPosted l.fn.book.day l.fn.book.history l.fn.note → AllPosted l.fn.book.day l.book.history l.note;
}

-- each round takes a row
abbrev pub decreases-calls : goal.decreases-calls
decreases-calls g l = length l.left.items
