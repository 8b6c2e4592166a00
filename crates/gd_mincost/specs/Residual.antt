-- The steps that a flow leaves room for, as links.
use Rattle.std.specs.Prelude.{◌≡◌, ℕ, ◌<◌, ℤ, pos, ◌<ℤ◌, false, List, length, map, get_or}
use Rattle.gd_scale.specs.Scale.{Scale}
use Rattle.gd_network.specs.Arcs.{Net}
use Rattle.gd_network.specs.declared.walks.Step.{Step}
use Rattle.gd_network.specs.Steps.{tail_of, head_of, room}
use Rattle.gd_labels.specs.Links.{node_at}
use Rattle.gd_mincost.specs.Gains.{gained}
use Rattle.gd_mincost.specs.declared.residual.Residual.{Residual}

abbrev pub step_at : List Step → ℕ → Step
step_at steps i = get_or steps i (record { arc = 0; back = false })

-- A link is a step that has room: it joins the step's nodes, and gains what the step gains.
pub record IsLink {V : Type 0} (s : Scale V) (n : Net) (flow : List ℤ) (gains : List V)
    (step : Step) (from to : ℕ) (gain : V) : Type 0 where
  pub arc : step.arc < length n
  pub begins : from ≡ tail_of n step
  pub leads : to ≡ head_of n step
  pub gain_is : gain ≡ gained s gains step
  pub has_room : pos 0 <ℤ room n flow step

pub record AreLinked {V : Type 0} (s : Scale V) (n : Net) (flow : List ℤ) (gains : List V)
    (from to : List ℕ) (gain : List V) (steps : List Step) : Type 0 where
  pub to_count : length to ≡ length from
  pub gain_count : length gain ≡ length from
  pub step_count : length steps ≡ length from
  pub each : (i : ℕ) → i < length from
      → IsLink s n flow gains (step_at steps i) (node_at from i) (node_at to i) (get_or gain i s.none)

abbrev pub Holds : List Step → Step → Type 0
Holds steps step = (i : ℕ) × (i < length steps) × (step_at steps i ≡ step)

-- No step of the old list is missing from the new one.
abbrev pub Keeps : List Step → List Step → Type 0
Keeps old new = (other : Step) → Holds old other → Holds new other

-- Each link is a step that has room.
abbrev pub IsSound : {C V : Type 0} → Scale V → (C → V) → Net → List ℤ → List V → Residual C → Type 0
IsSound s meaning n flow gains r =
    AreLinked s n flow gains r.links.from.items r.links.to.items (map meaning r.links.gain.items) r.steps.items

-- Each step of the first arcs that has room, along or back, is there.
abbrev pub IsWhole : Net → List ℤ → ℕ → List Step → Type 0
IsWhole n flow count steps = (step : Step) → step.arc < count → pos 0 <ℤ room n flow step → Holds steps step
