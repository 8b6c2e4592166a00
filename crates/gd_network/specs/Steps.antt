-- Walks over a network's arcs, and how far a flow is from its bounds.
use Rattle.std.specs.Prelude.{◌≡◌, ℕ, ◌+◌, ◌^◌, ◌<◌, ◌≤◌, ◌≢◌, ◌⊎◌, ◌≤ℤ◌, ◌<ℤ◌, List, [], ◌∷◌, length, map, fold, get_or, slice_set, true, false, ℤ, pos, negsuc, ◌-ℤ◌, ◌+ℤ◌, cond}
use Rattle.std.specs.Int.{int_min}
use Rattle.gd_scale.specs.Sum.{sum_nat}
use Rattle.gd_network.specs.Arcs.{Net, from_at, to_at, lower_at, upper_at}
use Rattle.gd_network.specs.Flow.{flow_at}
use Rattle.gd_network.specs.declared.walks.Step.{Step}

-- The node at which a step begins.
abbrev pub tail_of : Net → Step → ℕ
tail_of n s = cond s.back (to_at n s.arc) (from_at n s.arc)

-- The node to which it leads.
abbrev pub head_of : Net → Step → ℕ
head_of n s = cond s.back (from_at n s.arc) (to_at n s.arc)

-- How much more a step can carry: along its arc up to the upper bound, back along it down to the lower one.
abbrev pub room : Net → List ℤ → Step → ℤ
room n flow s = cond s.back (flow_at flow s.arc -ℤ lower_at n s.arc) (upper_at n s.arc -ℤ flow_at flow s.arc)

-- What its arc carries once the step has carried d.
abbrev pub moved : List ℤ → Step → ℤ → ℤ
moved flow s d = cond s.back (flow_at flow s.arc -ℤ d) (flow_at flow s.arc +ℤ d)

-- The flow once each step has carried d.
abbrev pub pushed : List ℤ → List Step → ℤ → List ℤ
pushed flow [] d = flow
pushed flow (s ∷ walk) d = pushed (slice_set flow s.arc (moved flow s d)) walk d

-- Steps from one node to another, each beginning where the one before it ends.
abbrev pub Follows : Net → ℕ → List Step → ℕ → Type 0
Follows n at [] end = at ≡ end
Follows n at (s ∷ walk) end = (s.arc < length n) × (tail_of n s ≡ at) × Follows n (head_of n s) walk end

-- Each step takes an arc of the network.
abbrev pub AreSteps : Net → List Step → Type 0
AreSteps n walk = (k : ℕ) (s : Step) → k < length walk → (get_or walk k s).arc < length n

-- No step comes twice.
abbrev pub Once : List Step → Type 0
Once walk =
    (j k : ℕ) (s : Step) → j < k → k < length walk → (get_or walk j s).arc ≡ (get_or walk k s).arc
    → (get_or walk j s).back ≢ (get_or walk k s).back

-- The least room of the steps, and at most so much.
abbrev pub least_room : Net → List ℤ → List Step → ℤ → ℤ
least_room n flow walk most = fold int_min most (map (room n flow) walk)

-- Each step has the room for d.
abbrev pub HasRooms : Net → List ℤ → List Step → ℤ → Type 0
HasRooms n flow walk d = (k : ℕ) (s : Step) → k < length walk → d ≤ℤ room n flow (get_or walk k s)

-- z where it is above 0
abbrev pub above_none : ℤ → ℕ
above_none (pos n) = n
above_none (negsuc n) = 0

-- How far f is from its bounds.
abbrev pub amiss : ℤ → ℤ → ℤ → ℕ
amiss low high f = above_none (low -ℤ f) + above_none (f -ℤ high)

-- How far an arc's amount is from its bounds.
abbrev pub amiss_at : Net → List ℤ → ℕ → ℕ
amiss_at n flow a = amiss (lower_at n a) (upper_at n a) (flow_at flow a)

-- How far all arcs together are from their bounds.
abbrev pub all_amiss : Net → List ℤ → ℕ
all_amiss n flow = sum_nat (length n) (amiss_at n flow)

-- How far from its bounds an amount may be to be counted with.
abbrev pub most_amiss : ℕ
most_amiss = 2 ^ 62

-- There is an amount for each arc, and none is too far from its bounds to count with.
pub record IsNear (n : Net) (flow : List ℤ) : Type 0 where
  pub size : length flow ≡ length n
  pub near : (a : ℕ) → a < length n → amiss_at n flow a ≤ most_amiss

-- No arc is further from its bounds.
abbrev pub IsNearer : Net → List ℤ → List ℤ → Type 0
IsNearer n old new = (a : ℕ) → a < length n → amiss_at n new a ≤ amiss_at n old a

-- A step along an arc that carries too little, or back along one that carries too much.
abbrev pub Mends : Net → List ℤ → Step → Type 0
Mends n flow s =
    ((s.back ≡ false) × (flow_at flow s.arc <ℤ lower_at n s.arc))
    ⊎ ((s.back ≡ true) × (upper_at n s.arc <ℤ flow_at flow s.arc))
