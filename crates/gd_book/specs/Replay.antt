-- A place in a history, and what a walk keeps there.
use Rattle.std.specs.Prelude.{ℕ, ◌≤◌, length, take}
use Rattle.gd_machine.specs.Day.{Day, IsDay}
use Rattle.gd_machine.specs.History.{History}
use Rattle.gd_machine.specs.Machine.{IsLegal, AllPass}
use Rattle.gd_book_part.specs.Kept.{AreTablesOf}
use Rattle.gd_book_part.specs.declared.tables.Tables.{Tables}

-- How many events of the history are behind.
pub record Place : Type 0 where
  pub day : Day
  pub history : History
  pub at : ℕ

-- The tables are those of the events behind, in a legal history whose certificates passed the check.
pub record AreReplayed (day : Day) (t : Tables) (h : History) (at : ℕ) : Type 0 where
  pub opened : IsDay day
  pub tables : AreTablesOf day t (take at h)
  pub within : at ≤ length h
  pub legal : IsLegal day h
  pub passed : AllPass h
