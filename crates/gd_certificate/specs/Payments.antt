-- What a line pays at its origin, and when a price is right, as the code counts.
use Rattle.std.specs.Prelude.{◌≡◌, ℕ, ℤ, pos, Option, Some, None}
use Rattle.gd_scale.specs.Scale.{Scale, IsAbove}
use Rattle.gd_rules.specs.Question.{Element}
use Rattle.gd_rules.specs.Question.Element.{Segment, Receipt, Delivery, Pool}

-- A price above zero only where the load is the limit, below zero only where it is 0. Where there is no limit it is free.
abbrev pub ClearsLimit : {V : Type 0} → Scale V → Option ℕ → ℤ → V → Type 0
ClearsLimit s None load p = Unit {0}
ClearsLimit s (Some capacity) load p = (IsAbove s p s.none → load ≡ pos capacity) × (IsAbove s s.none p → load ≡ pos 0)

-- A line pays its origin's price, and gets it back where it leaves a pool.
abbrev pub origin_price : {V : Type 0} → Scale V → Element → V → V
origin_price s (Segment from to capacity) x = s.none
origin_price s (Receipt place capacity) x = x
origin_price s (Delivery place capacity) x = s.none
origin_price s (Pool place) x = s.minus x
