-- What is asked of a schedule: a pipeline's elements, and the lines that cross them.
-- Quantities and capacities are dekatherms for one gas day. Elements are numbered: segments, then points, then pools.
use Rattle.std.specs.Prelude.{ℕ, ℤ, pos, negsuc, List, [], get_or, ◌==◌, if◌then◌else◌}
use Rattle.std.specs.List.{count_by}

-- One thing that gas passes: a segment, a point where it is received or delivered, or a pool.
pub data Element : Type 0 where
  Segment : (from to capacity : ℕ) → Element
  Receipt : (place capacity : ℕ) → Element
  Delivery : (place capacity : ℕ) → Element
  Pool : (place : ℕ) → Element

-- Gas from one end to another over a route. Ends are numbers of points and pools, and the route is numbers of segments, among the elements.
-- The quantity scheduled lies between floor and ceiling, which is the confirmed quantity.
pub record Line : Type 0 where
  pub origin : ℕ
  pub dest : ℕ
  pub route : List ℕ
  pub class : ℕ
  pub floor : ℕ
  pub ceiling : ℕ

-- The elements with the capacities in force, and the lines in order of entry.
pub record Question : Type 0 where
  pub elements : List Element
  pub lines : List Line

abbrev pub no_line : Line
no_line = record { origin = 0; dest = 0; route = []; class = 0; floor = 0; ceiling = 0 }

abbrev pub element : Question → ℕ → Element
element q e = get_or q.elements e (Pool 0)

abbrev pub line : Question → ℕ → Line
line q i = get_or q.lines i no_line

-- How often a line crosses the element of this number (own): +1 each segment of its route and each end that is a point, +1 the pool that it enters, -1 the pool that it leaves, and 0 all else.
-- A route repeats no place, so a segment stands in it once or never.
abbrev pub crossing_of : Line → ℕ → Element → ℤ
crossing_of l e (Segment from to capacity) = pos (count_by (λ k. k == e) l.route)
crossing_of l e (Receipt place capacity) = if l.origin == e then pos 1 else pos 0
crossing_of l e (Delivery place capacity) = if l.dest == e then pos 1 else pos 0
crossing_of l e (Pool place) = if l.dest == e then pos 1 else if l.origin == e then negsuc 0 else pos 0

abbrev pub crossing : Question → ℕ → ℕ → ℤ
crossing q i e = crossing_of (line q i) e (element q e)

abbrev pub place_of : Element → ℕ
place_of (Segment from to capacity) = from
place_of (Receipt place capacity) = place
place_of (Delivery place capacity) = place
place_of (Pool place) = place
