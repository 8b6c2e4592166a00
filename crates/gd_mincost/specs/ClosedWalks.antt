-- Closed walks that gain, walks of links as steps, and labels that show that none gains.
use Rattle.std.specs.Prelude.{◌≡◌, ℕ, ◌<◌, ℤ, pos, Bool, List, length, map, reverse, IsTrue}
use Rattle.gd_scale.specs.Scale.{Scale, IsAbove}
use Rattle.gd_network.specs.Arcs.{Net}
use Rattle.gd_network.specs.Potential.{IsStill}
use Rattle.gd_network.specs.declared.walks.Step.{Step}
use Rattle.gd_network.specs.Steps.{AreSteps, Follows, Once}
use Rattle.gd_mincost.specs.Gains.{gain_at, gain_along}
use Rattle.gd_mincost.specs.Residual.{step_at}
use Rattle.gd_mincost.specs.Settling.{potential, most_potential}

-- The steps of links that are listed from the last to the first.
abbrev pub steps_along : List Step → List ℕ → List Step
steps_along steps walk = reverse (map (step_at steps) walk)

-- There is a label for each node, none of them too large, and no step that has room gains.
pub record AreShown {V : Type 0} (s : Scale V) (within : ℤ → V → Bool) (nodes : ℕ) (n : Net)
    (flow : List ℤ) (gains labels : List V) : Type 0 where
  pub count : length labels ≡ nodes
  pub small : (node : ℕ) → node < nodes → IsTrue (within (pos most_potential) (potential s labels node))
  pub still : IsStill s n flow (gain_at s gains) (potential s labels)

-- The walk leads from a node back to it, no step comes twice, and together the steps gain.
pub record IsGainingWalk {V : Type 0} (s : Scale V) (n : Net) (gains : List V) (walk : List Step) : Type 0 where
  pub node : ℕ
  pub steps : AreSteps n walk
  pub closed : Follows n node walk node
  pub once : Once walk
  pub rises : IsAbove s (gain_along s gains walk) s.none

-- The walk leads from a node back to it.
abbrev pub IsClosed : Net → List Step → Type 0
IsClosed n walk = (node : ℕ) × Follows n node walk node
