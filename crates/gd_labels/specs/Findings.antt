-- What a search for labels finds.
use Rattle.std.specs.Prelude.{◌≡◌, ℕ, ◌*◌, ◌<◌, ℤ, pos, Bool, List, length, map, get_or, IsTrue}
use Rattle.gd_scale.specs.Scale.{Scale, AtMost, IsAbove}
use Rattle.gd_labels.specs.Links.{node_at, most_gain, Trail, gain_of, EndsOnce}
use Rattle.gd_labels.specs.declared.Found.{Found}
use Rattle.gd_labels.specs.declared.Found.TheVariants.{Labels, Closed}

-- The label of a node.
abbrev pub label_at : {V : Type 0} → Scale V → List V → ℕ → V
label_at s labels node = get_or labels node s.none

-- No link would raise the label of the node to which it leads.
abbrev pub IsStill : {V : Type 0} → Scale V → List ℕ → List ℕ → List V → List V → Type 0
IsStill s from to gain labels =
    (i : ℕ) → i < length from
    → AtMost s (s.plus (label_at s labels (node_at from i)) (get_or gain i s.none))
    (label_at s labels (node_at to i))

-- There is a label for each of n nodes, at most what n links can gain, and no link would raise one.
pub record AreLabels {V : Type 0} (s : Scale V) (within : ℤ → V → Bool) (n : ℕ) (from to : List ℕ)
    (gain : List V) (labels : List V) : Type 0 where
  pub nodes : length labels ≡ n
  pub small : (node : ℕ) → node < n → IsTrue (within (pos (most_gain * n)) (label_at s labels node))
  pub still : IsStill s from to gain labels

-- The links lead from a node back to it, no two lead to one node, and together they gain.
pub record IsGaining {V : Type 0} (s : Scale V) (from to : List ℕ) (gain : List V) (walk : List ℕ) : Type 0 where
  pub node : ℕ
  pub closed : Trail from to node walk node
  pub gains : IsAbove s (gain_of s gain walk) s.none
  pub once : EndsOnce to walk

abbrev pub IsFound : {C V : Type 0} → Scale V → (ℤ → V → Bool) → (C → V) → ℕ → List ℕ → List ℕ
    → List V → Found C → Type 0
IsFound s within meaning n from to gain (Labels labels) = AreLabels s within n from to gain (map meaning labels.items)
IsFound s within meaning n from to gain (Closed walk) = IsGaining s from to gain walk.items
