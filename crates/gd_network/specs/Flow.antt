-- What flows over a network's arcs.
use Rattle.std.specs.Prelude.{◌≡◌, ℕ, ◌+◌, ◌-◌, ◌<◌, ℤ, pos, ◌≤ℤ◌, neg_ℤ, Bool, true, false, List, length, get_or, min, max, ◌==◌, ◌≤◌, take, drop, replicate, ◌++◌, if◌then◌else◌, ◌<ℤ◌, ◌⊎◌}
use Rattle.gd_scale.specs.Sum.{sum_int}
use Rattle.gd_rules.specs.Question.{Element, Question, element, line}
use Rattle.gd_rules.specs.Question.Element.{Segment, Receipt, Delivery, Pool}
use Rattle.gd_rules.specs.Schedule.{quantity, load}
use Rattle.gd_rules.specs.Spread.{tenth_end}
use Rattle.gd_rules.specs.Cut.{Side, has_place, has_end}
use Rattle.gd_network.specs.Arcs.{Net, from_at, to_at, lower_at, upper_at, tenth_arc}
use Rattle.gd_question.specs.Nodes.{end_node, carried}

abbrev pub flow_at : List ℤ → ℕ → ℤ
flow_at flow a = get_or flow a (pos 0)

-- what a flow carries into the set of nodes that pass
abbrev pub net : (ℕ → Bool) → Net → List ℤ → ℤ
net inside n flow = sum_int (length n) (λ a. carried (inside (from_at n a)) (inside (to_at n a)) (flow_at flow a))

-- A flow balances: it carries nothing into any set of nodes.
abbrev pub IsCirculation : Net → List ℤ → Type 0
IsCirculation n flow = (inside : ℕ → Bool) → net inside n flow ≡ pos 0

pub record IsWithin (n : Net) (flow : List ℤ) : Type 0 where
  pub above : (a : ℕ) → a < length n → lower_at n a ≤ℤ flow_at flow a
  pub below : (a : ℕ) → a < length n → flow_at flow a ≤ℤ upper_at n a

-- the lower bound of an arc that leads into the set, less the upper bound of one that leads out
abbrev pub bound_of : Bool → Bool → ℤ → ℤ → ℤ
bound_of true true low high = pos 0
bound_of false false low high = pos 0
bound_of false true low high = low
bound_of true false low high = neg_ℤ high

abbrev pub arc_excess : (ℕ → Bool) → Net → ℤ
arc_excess inside n =
    sum_int (length n)
    (λ a. bound_of (inside (from_at n a)) (inside (to_at n a)) (lower_at n a) (upper_at n a))

-- No step leaves the set: an arc that leads into it can't carry less, and one that leads out of it can't carry more.
pub record IsEdge (n : Net) (flow : List ℤ) (inside : ℕ → Bool) : Type 0 where
  pub into : (a : ℕ) → a < length n → inside (from_at n a) ≡ false → inside (to_at n a) ≡ true
      → flow_at flow a ≤ℤ lower_at n a
  pub out : (a : ℕ) → a < length n → inside (from_at n a) ≡ true → inside (to_at n a) ≡ false
      → upper_at n a ≤ℤ flow_at flow a

-- An arc into the set that carries too little, or one out of it that carries too much.
abbrev pub IsShort : Net → List ℤ → (ℕ → Bool) → ℕ → Type 0
IsShort n flow inside a =
    ((inside (from_at n a) ≡ false) × (inside (to_at n a) ≡ true) × (flow_at flow a <ℤ lower_at n a))
    ⊎ ((inside (from_at n a) ≡ true) × (inside (to_at n a) ≡ false) × (upper_at n a <ℤ flow_at flow a))

-- Which part of a quantity lies in the tenth after j tenths. What is above the ceiling counts with the last one.
abbrev pub part_of : ℕ → ℕ → ℕ → ℕ
part_of ceiling n j =
    (if j == 9 then max n (tenth_end ceiling j)
    else min (max n (tenth_end ceiling j)) (tenth_end ceiling (j + 1)))
    - tenth_end ceiling j

-- The flow of a schedule: the loads, and each line's quantity over its tenths.
pub record IsFlowOf (q : Question) (schedule : List ℕ) (flow : List ℤ) : Type 0 where
  pub loads : (e : ℕ) → e < length q.elements → flow_at flow e ≡ load q schedule e
  pub parts : (i j : ℕ) → i < length q.lines → j < 10
      → flow_at flow (tenth_arc q i j) ≡ pos (part_of (line q i).ceiling (quantity schedule i) j)

-- The schedule of a flow: what each line's ten arcs carry.
pub record IsScheduleOf (q : Question) (flow : List ℤ) (schedule : List ℕ) : Type 0 where
  pub shape : length schedule ≡ length q.lines
  pub sums : (i : ℕ) → i < length q.lines → pos (quantity schedule i) ≡ sum_int 10 (λ j. flow_at flow (tenth_arc q i j))

-- The places and ends of a side are those whose nodes are inside.
abbrev pub ElementAgrees : Side → (ℕ → Bool) → ℕ → Element → Type 0
ElementAgrees side inside e (Segment from to capacity) =
    (has_place side from ≡ inside from) × (has_place side to ≡ inside to)
ElementAgrees side inside e (Receipt place capacity) =
    (has_end side e ≡ inside (end_node e)) × (has_place side place ≡ inside place)
ElementAgrees side inside e (Delivery place capacity) =
    (has_end side e ≡ inside (end_node e)) × (has_place side place ≡ inside place)
ElementAgrees side inside e (Pool place) = has_end side e ≡ inside (end_node e)

abbrev pub IsSideOf : Question → (ℕ → Bool) → Side → Type 0
IsSideOf q inside side = (e : ℕ) → e < length q.elements → ElementAgrees side inside e (element q e)

-- The first s elements are segments among s + 1 places, and then comes what hangs on a place.
abbrev pub IsOrdered : ℕ → ℕ → Element → Type 0
IsOrdered s e (Segment from to capacity) = (from ≤ s) × (to ≤ s)
IsOrdered s e (Receipt place capacity) = (s ≤ e) × (place ≤ s)
IsOrdered s e (Delivery place capacity) = (s ≤ e) × (place ≤ s)
IsOrdered s e (Pool place) = s ≤ e

-- The side of a list of marks, one for each node: its places, and then its points and pools.
abbrev pub side_of : ℕ → List Bool → Side
side_of s marks = record { places = take (s + 1) marks; ends = replicate s false ++ drop (s + 1) marks }
