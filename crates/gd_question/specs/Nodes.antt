-- Nodes: a question's places, then its points and pools. Gas that passes an element flows from its start to its stop.
use Rattle.std.specs.Prelude.{◌≡◌, ℕ, ◌+◌, ◌<◌, ◌≤◌, ℤ, pos, ◌-ℤ◌, Bool, true, false, length, min, ◌⊎◌}
use Rattle.gd_rules.specs.Question.{Element, Question, element}
use Rattle.gd_rules.specs.Question.Element.{Segment, Receipt, Delivery, Pool}

-- A place's node is its own number. A point or pool has the one after its element's number.
abbrev pub end_node : ℕ → ℕ
end_node e = e + 1

-- The node from which gas passes an element.
abbrev pub start_of : ℕ → Element → ℕ
start_of e (Segment from to capacity) = from
start_of e (Receipt place capacity) = end_node e
start_of e (Delivery place capacity) = place
start_of e (Pool place) = place

-- The node to which it flows.
abbrev pub stop_of : ℕ → Element → ℕ
stop_of e (Segment from to capacity) = to
stop_of e (Receipt place capacity) = place
stop_of e (Delivery place capacity) = end_node e
stop_of e (Pool place) = end_node e

abbrev pub start : Question → ℕ → ℕ
start q e = start_of e (element q e)

abbrev pub stop : Question → ℕ → ℕ
stop q e = stop_of e (element q e)

-- Each element brings one node, the one after its own number, and joins it with an earlier one.
abbrev pub Brings : ℕ → Element → Type 0
Brings e (Segment from to capacity) = ((to ≡ e + 1) × (from ≤ e)) ⊎ ((from ≡ e + 1) × (to ≤ e))
Brings e (Receipt place capacity) = place ≤ e
Brings e (Delivery place capacity) = place ≤ e
Brings e (Pool place) = place ≤ e

-- the earlier node
abbrev pub anchor : ℕ → Element → ℕ
anchor e (Segment from to capacity) = min from to
anchor e (Receipt place capacity) = place
anchor e (Delivery place capacity) = place
anchor e (Pool place) = place

abbrev pub AllBring : Question → Type 0
AllBring q = (e : ℕ) → e < length q.elements → Brings e (element q e)

-- an amount where the node is inside
abbrev pub inside_part : Bool → ℤ → ℤ
inside_part true f = f
inside_part false f = pos 0

-- what f dekatherms from a node to another carry into a set, which has the first or not, and the second or not
abbrev pub carried : Bool → Bool → ℤ → ℤ
carried s e f = inside_part e f -ℤ inside_part s f
