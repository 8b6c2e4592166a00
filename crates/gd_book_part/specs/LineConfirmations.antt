-- What is confirmed and waived of a line, as the tables keep it: with the cycle that it is for.
use Rattle.std.specs.Prelude.{◌≡◌, ℕ, ◌≤◌, ◌==◌, ◌&&◌, false, None, if◌then◌else◌}
use Rattle.gd_units.specs.declared.service.End.TheVariants.{Origin, Dest}
use Rattle.gd_machine.specs.History.{History, cycle_of, response_of, is_waived}
use Rattle.gd_book_part.specs.declared.confirmations.Confirmation.{Confirmation}

-- Nothing, for no cycle.
abbrev pub nothing : Confirmation
nothing = record { cycle = 0; origin = None; dest = None; waived = false }

-- It is not for a later cycle, and tells the responses of the current one and its waiver.
pub record Tells (h : History) (line : ℕ) (c : Confirmation) : Type 0 where
  pub current : c.cycle ≤ cycle_of h
  pub origin : response_of h line Origin ≡ (if c.cycle == cycle_of h then c.origin else None)
  pub dest : response_of h line Dest ≡ (if c.cycle == cycle_of h then c.dest else None)
  pub waived : is_waived h line ≡ ((c.cycle == cycle_of h) && c.waived)
