-- The arcs at each node.
use Rattle.std.specs.Prelude.{◌≡◌, ℕ, ◌<◌, Bool, ◌==◌, ◌||◌, List, [], length, map, get_or, Vec}
use Rattle.std.specs.Global.{Global}
use Rattle.std.specs.List.{filter, range_with_len}
use Rattle.gd_network.specs.declared.arcs.Arc.{Arc}
use Rattle.gd_network.specs.Arcs.{Net, arc_at}

-- The arc begins or ends at the node.
abbrev pub touches : Arc → ℕ → Bool
touches a node = (a.from == node) || (a.to == node)

-- The numbers of the first k arcs that begin or end at a node, in their order.
abbrev pub links_below : Net → ℕ → ℕ → List ℕ
links_below n k node = filter (λ a. touches (arc_at n a) node) (range_with_len 0 k)

-- The numbers of all arcs that begin or end at a node, in their order.
abbrev pub links_of : Net → ℕ → List ℕ
links_of n node = links_below n (length n) node

-- There is a list for each node, which has those of the first k arcs that begin or end there.
pub record AreLinks (nodes : ℕ) (n : Net) (k : ℕ) (links : List (List ℕ)) : Type 0 where
  pub size : length links ≡ nodes
  pub each : (node : ℕ) → node < nodes → get_or links node [] ≡ links_below n k node

abbrev pub lists : List (Vec ℕ Global) → List (List ℕ)
lists links = map (λ l. l.items) links
