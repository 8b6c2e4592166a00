-- A question as a network: an arc for each element, and ten for each line, which lead back from its destination to
-- its origin.
use Rattle.std.specs.Prelude.{◌≡◌, ℕ, ◌+◌, ◌-◌, ◌*◌, ◌<◌, ℤ, pos, List, length, get_or, min, max}
use Rattle.gd_rules.specs.Question.{Element, Line, Question, element, line}
use Rattle.gd_rules.specs.Question.Element.{Segment, Receipt, Delivery, Pool}
use Rattle.gd_rules.specs.Spread.{tenth_end}
use Rattle.gd_question.specs.Nodes.{end_node, start_of, stop_of}
use Rattle.gd_network.specs.declared.arcs.Arc.{Arc}

-- What an element's arc carries at most: nothing where it is a pool, which gives back what it takes.
abbrev pub most_of : Element → ℕ
most_of (Segment from to capacity) = capacity
most_of (Receipt place capacity) = capacity
most_of (Delivery place capacity) = capacity
most_of (Pool place) = 0

-- What the arc of the tenth after j tenths carries at most, and at least.
abbrev pub most_part : ℕ → ℕ → ℕ
most_part ceiling j = tenth_end ceiling (j + 1) - tenth_end ceiling j

abbrev pub least_part : ℕ → ℕ → ℕ → ℕ
least_part ceiling floor j = min (max floor (tenth_end ceiling j)) (tenth_end ceiling (j + 1)) - tenth_end ceiling j

-- How many arcs the network of a question has.
abbrev pub arc_count : Question → ℕ
arc_count q = length q.elements + 10 * length q.lines

-- The arc of line i's tenth after j tenths.
abbrev pub tenth_arc : Question → ℕ → ℕ → ℕ
tenth_arc q i j = length q.elements + (10 * i + j)

-- The arc of an element: what passes it flows from its start to its stop, up to its capacity.
abbrev pub element_arc : ℕ → Element → Arc
element_arc e x = record { from = start_of e x; to = stop_of e x; lower = pos 0; upper = pos (most_of x) }

-- The arc of a line's tenth after j tenths, from its destination back to its origin.
abbrev pub line_arc : Line → ℕ → Arc
line_arc l j = record {
  from = end_node l.dest;
  to = end_node l.origin;
  lower = pos (least_part l.ceiling l.floor j);
  upper = pos (most_part l.ceiling j);
}

-- A network is its arcs, by number.
abbrev pub Net : Type 0
Net = List Arc

abbrev pub no_arc : Arc
no_arc = record { from = 0; to = 0; lower = pos 0; upper = pos 0 }

abbrev pub arc_at : Net → ℕ → Arc
arc_at n a = get_or n a no_arc

abbrev pub from_at : Net → ℕ → ℕ
from_at n a = (arc_at n a).from

abbrev pub to_at : Net → ℕ → ℕ
to_at n a = (arc_at n a).to

abbrev pub lower_at : Net → ℕ → ℤ
lower_at n a = (arc_at n a).lower

abbrev pub upper_at : Net → ℕ → ℤ
upper_at n a = (arc_at n a).upper

-- The network of a question: an arc for each element, and then ten for each line.
pub record IsNetwork (q : Question) (n : Net) : Type 0 where
  pub size : length n ≡ arc_count q
  pub elements : (e : ℕ) → e < length q.elements → arc_at n e ≡ element_arc e (element q e)
  pub tenths : (i j : ℕ) → i < length q.lines → j < 10 → arc_at n (tenth_arc q i j) ≡ line_arc (line q i) j
