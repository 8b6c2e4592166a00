use Rattle.std.proofs.Common.{◌≡◌, ◌+◌, map, vec_len}
use Rattle.std.specs.List.{AllZip}
use Rattle.std.specs.Vec.Iter.{into_iter_items, into_iter_len}
use Rattle.gasday_office.specs.Days.{opened}
use Rattle.gasday_office.specs.Offices.{IsCalendarFor}
use Rattle.gasday_office.proofs.OpenedBooks.{AreOpenedSo}
use Rattle.gasday_office.proofs.books.books_of.Given as goal

-- The books so far, and the days with their calendars that are left behind them.
abbrev pub invariant-loop-day : goal.invariant-loop-day
invariant-loop-day l =
    record {
      left : into_iter_len l.calendars ≡ into_iter_len l.day-iterator;
      len : vec_len l.books + into_iter_len l.day-iterator ≡ vec_len l.fn.days;
      calendars : AllZip IsCalendarFor (map opened (into_iter_items l.day-iterator)) (into_iter_items l.calendars);
      opened : AreOpenedSo l.fn.days.items l.books.items (into_iter_items l.day-iterator);
    }
