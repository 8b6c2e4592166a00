use Rattle.std.proofs.Common.{◌≡◌, ◌+◌, ◌≤◌, vec_len, vec_capacity}
use Rattle.std.specs.Vec.Iter.{into_iter_items, into_iter_len}
use Rattle.gd_office.specs.Slots.{AreNumbered}
use Rattle.gd_office.proofs.Numbering.{AreDaysFrom}
use Rattle.gd_office.proofs.office.slots_of.Given as goal

abbrev pub invariant-loop-book : goal.invariant-loop-book
invariant-loop-book g l =
    record {
      left : vec_len l.slots + into_iter_len l.book-iterator ≡ vec_len l.fn.books;
      room : vec_len l.fn.books ≤ vec_capacity l.slots;
      numbered : AreNumbered l.slots.items;
      days : AreDaysFrom g.J.Days.days (vec_len l.slots) (into_iter_items l.book-iterator);
    }
