-- How large the quantities of a schedule are.
use Rattle.std.specs.Prelude.{ℕ, ◌<◌, ◌≤◌, List, length}
use Rattle.gd_rules.specs.Schedule.{quantity}
use Rattle.gd_rules.specs.Limits.{most_dekatherms}

-- No quantity is above the greatest.
abbrev pub AreSmall : List ℕ → Type 0
AreSmall quantities = (i : ℕ) → i < length quantities → quantity quantities i ≤ most_dekatherms
