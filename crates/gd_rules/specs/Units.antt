-- What a dekatherm of a class is worth in each tenth: no more in a later one.
use Rattle.std.specs.Prelude.{ℕ, ◌≤◌}
use Rattle.gd_scale.specs.Scale.{Scale, AtMost}

-- A later tenth of a class is never worth more.
abbrev pub NeverRises : {V : Type 0} → Scale V → (ℕ → ℕ → V) → Type 0
NeverRises s unit = (class early late : ℕ) → early ≤ late → AtMost s (unit class late) (unit class early)
