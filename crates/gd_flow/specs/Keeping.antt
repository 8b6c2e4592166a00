-- What a repair keeps of a flow.
use Rattle.std.specs.Prelude.{ℕ, ℤ, ◌≤ℤ◌, List}
use Rattle.gd_network.specs.Arcs.{Net, lower_at, upper_at}
use Rattle.gd_network.specs.Flow.{flow_at, IsCirculation}
use Rattle.gd_network.specs.Steps.{IsNear}

-- An arc carries an amount within its bounds.
abbrev pub Holds : Net → List ℤ → ℕ → Type 0
Holds n flow a = (lower_at n a ≤ℤ flow_at flow a) × (flow_at flow a ≤ℤ upper_at n a)

-- There is an amount for each arc, none too far from its bounds to count with, and the flow balances.
pub record IsKept (n : Net) (flow : List ℤ) : Type 0 where
  pub near : IsNear n flow
  pub balances : IsCirculation n flow
