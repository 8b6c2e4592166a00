-- A book by its opening values and its history, and what it keeps.
use Rattle.gd_machine.specs.Day.{Day, IsDay}
use Rattle.gd_machine.specs.History.{History}
use Rattle.gd_machine.specs.Machine.{IsLegal, AllPass}
use Rattle.gd_book_part.specs.Kept.{AreTablesOf}
use Rattle.gd_book_part.specs.declared.tables.Tables.{Tables}
use Rattle.gd_book.specs.declared.ledger.Ledger.{Ledger}

pub record Kept : Type 0 where
  pub day : Day
  pub history : History

-- The tables are those of the history, which is legal, and each published certificate passed the check.
pub record AreKept (day : Day) (t : Tables) (h : History) : Type 0 where
  pub opened : IsDay day
  pub tables : AreTablesOf day t h
  pub legal : IsLegal day h
  pub passed : AllPass h

abbrev pub IsKept : Ledger → Type 0
IsKept l = AreKept l.opening l.tables l.history.items
