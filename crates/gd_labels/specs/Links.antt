-- Links from node to node, walks along them, and what a walk gains.
use Rattle.std.specs.Prelude.{◌≡◌, ◌≢◌, ℕ, ◌<◌, ℤ, pos, Bool, List, [], ◌∷◌, length, get_or, IsTrue}
use Rattle.gd_scale.specs.Scale.{Scale}

-- The node of this number in a list of nodes.
abbrev pub node_at : List ℕ → ℕ → ℕ
node_at nodes i = get_or nodes i 0

-- The greatest size of what a link gains.
abbrev pub most_gain : ℕ
most_gain = 16

-- The three lists are of one length, each link joins two of n nodes, and no gain is too large.
pub record AreLinks {V : Type 0} (s : Scale V) (within : ℤ → V → Bool) (n : ℕ) (from to : List ℕ)
    (gain : List V) : Type 0 where
  pub ends : length to ≡ length from
  pub gains : length gain ≡ length from
  pub begins_in : (i : ℕ) → i < length from → node_at from i < n
  pub leads_in : (i : ℕ) → i < length from → node_at to i < n
  pub small : (i : ℕ) → i < length from → IsTrue (within (pos most_gain) (get_or gain i s.none))

-- A walk from a to b, its links listed from the last to the first.
abbrev pub Trail : List ℕ → List ℕ → ℕ → List ℕ → ℕ → Type 0
Trail from to a [] b = a ≡ b
Trail from to a (i ∷ walk) b = (i < length from) × (node_at to i ≡ b) × Trail from to a walk (node_at from i)

-- What the links of a walk gain together.
abbrev pub gain_of : {V : Type 0} → Scale V → List V → List ℕ → V
gain_of s gain [] = s.none
gain_of s gain (i ∷ walk) = s.plus (get_or gain i s.none) (gain_of s gain walk)

-- No two links of the walk lead to one node.
abbrev pub EndsOnce : List ℕ → List ℕ → Type 0
EndsOnce to walk = (j k : ℕ) → j < k → k < length walk → node_at to (node_at walk j) ≢ node_at to (node_at walk k)
