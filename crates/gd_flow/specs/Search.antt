-- The nodes that a search finds, and the closed walk that it gives.
use Rattle.std.specs.Prelude.{◌≡◌, ◌≢◌, ℕ, ◌+◌, ◌<◌, ◌≤◌, ℤ, pos, ◌<ℤ◌, Bool, true, false, not, List, length, get_or}
use Rattle.std.specs.List.{count_by}
use Rattle.gd_network.specs.Arcs.{Net}
use Rattle.gd_network.specs.Beginning.{Laid}
use Rattle.gd_network.specs.declared.walks.Step.{Step}
use Rattle.gd_network.specs.Steps.{tail_of, head_of, room, Follows, AreSteps, HasRooms, Once}
use Rattle.gd_flow.specs.declared.search.Find.{Find}
use Rattle.gd_flow.specs.declared.search.Search.{Search}

abbrev pub no_find : Find
no_find = record { node = 0; step = record { arc = 0; back = false }; before = 0 }

abbrev pub find_at : Search → ℕ → Find
find_at s k = get_or s.finds.items k no_find

-- The node at place k was found from an earlier one, by a step that has room.
pub record IsLed (n : Net) (flow : List ℤ) (s : Search) (k : ℕ) : Type 0 where
  pub earlier : (find_at s k).before < k
  pub arc : (find_at s k).step.arc < length n
  pub starts : tail_of n (find_at s k).step ≡ (find_at s (find_at s k).before).node
  pub ends : head_of n (find_at s k).step ≡ (find_at s k).node
  pub has_room : pos 0 <ℤ room n flow (find_at s k).step

-- The marked nodes are those found, each once, and all but the first were led to. As many nodes are left as are not
-- found.
pub record IsSearch (l : Laid) (flow : List ℤ) (s : Search) : Type 0 where
  pub size : length s.marks.items ≡ length l.question.asked.elements + 1
  pub counted : length s.finds.items + count_by not s.marks.items ≡ length l.question.asked.elements + 1
  pub begun : 0 < length s.finds.items
  pub marked : (k : ℕ) → k < length s.finds.items → get_or s.marks.items (find_at s k).node false ≡ true
  pub found : (v : ℕ) → get_or s.marks.items v false ≡ true → (k : ℕ) × (k < length s.finds.items)
      × ((find_at s k).node ≡ v)
  pub once : (j k : ℕ) → j < k → k < length s.finds.items → (find_at s j).node ≢ (find_at s k).node
  pub led : (k : ℕ) → 0 < k → k < length s.finds.items → IsLed l.arcs flow s k

-- What is found stays where it is.
pub record Grows (old new : Search) : Type 0 where
  pub longer : length old.finds.items ≤ length new.finds.items
  pub same : (k : ℕ) → k < length old.finds.items → find_at new k ≡ find_at old k
  pub marked : (v : ℕ) → get_or old.marks.items v false ≡ true → get_or new.marks.items v false ≡ true

-- A step from the node that has room leads to a marked node.
abbrev pub IsTried : Net → List ℤ → List Bool → ℕ → Step → Type 0
IsTried n flow marks node step =
    tail_of n step ≡ node → pos 0 <ℤ room n flow step → get_or marks (head_of n step) false ≡ true

-- Each step from one of the first k nodes found that has room leads to a marked node.
abbrev pub AreTried : Net → List ℤ → Search → ℕ → Type 0
AreTried n flow s k =
    (j : ℕ) (step : Step) → j < k → step.arc < length n
    → IsTried n flow s.marks.items (find_at s j).node step

-- A closed walk with room for a dekatherm, no step of which comes twice and one of which is this one.
pub record Closes (n : Net) (flow : List ℤ) (step : Step) (walk : List Step) : Type 0 where
  pub node : ℕ
  pub follows : Follows n node walk node
  pub steps : AreSteps n walk
  pub rooms : HasRooms n flow walk (pos 1)
  pub once : Once walk
  pub place : ℕ
  pub within : place < length walk
  pub taken : (s : Step) → get_or walk place s ≡ step
