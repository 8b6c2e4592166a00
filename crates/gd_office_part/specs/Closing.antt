-- When the sessions of a slot can be closed.
use Rattle.std.specs.Prelude.{◌≡◌, List, length, sum_by}
use Rattle.gd_office_part.specs.declared.days.Days.{Ghosts}
use Rattle.gd_office_part.specs.declared.kept.Kept.{Kept}
use Rattle.gd_office_part.specs.declared.numbers.Numbers.{Numbers}
use Rattle.gd_office_part.specs.Counting.{plus, numbers_of}
use Rattle.gd_office_part.specs.Seen.{Session}

-- What sessions counted together.
abbrev pub total_of : List Session → Numbers
total_of sessions = record {
  calls = sum_by (λ s. s.numbers.calls) sessions;
  nominations = sum_by (λ s. s.numbers.nominations) sessions;
  dekatherms = sum_by (λ s. s.numbers.dekatherms) sessions;
}

-- As many sessions as are open, and what they and the sessions closed before counted is what the book gained.
abbrev pub Closes : {J : Type 0} {days : Ghosts J} → Kept J days → List Session → Type 0
Closes kept sessions = (length sessions ≡ kept.live) × (plus kept.before (plus kept.closed (total_of sessions)) ≡ numbers_of kept.book)
