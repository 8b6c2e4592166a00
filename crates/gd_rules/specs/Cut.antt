-- A cut: places, points and pools out of which more must flow than can (Hoffman's condition for circulations).
use Rattle.std.specs.Prelude.{ℕ, ℤ, pos, ◌-ℤ◌, ◌<ℤ◌, Bool, not, ◌&&◌, List, length, get_or, if◌then◌else◌, false}
use Rattle.gd_scale.specs.Sum.{sum_nat}
use Rattle.gd_rules.specs.Question.{Element, Question, element, line}
use Rattle.gd_rules.specs.Question.Element.{Segment, Receipt, Delivery, Pool}

-- Which places are inside, and which of the elements that are points and pools.
pub record Side : Type 0 where
  pub places : List Bool
  pub ends : List Bool

abbrev pub has_place : Side → ℕ → Bool
has_place side place = get_or side.places place false

abbrev pub has_end : Side → ℕ → Bool
has_end side e = get_or side.ends e false

-- What can flow out through an element: its capacity if it leads from inside to outside.
abbrev pub way_out : Side → ℕ → Element → ℕ
way_out side e (Segment from to capacity) = if has_place side from && not (has_place side to) then capacity else 0
way_out side e (Receipt place capacity) = if has_end side e && not (has_place side place) then capacity else 0
way_out side e (Delivery place capacity) = if has_place side place && not (has_end side e) then capacity else 0
way_out side e (Pool place) = 0

-- The floors of the lines that lead out.
abbrev pub must_leave : Question → Side → ℕ
must_leave q side = sum_nat (length q.lines) (λ i. if has_end side (line q i).origin && not (has_end side (line q i).dest) then (line q i).floor else 0)

-- The ceilings of the lines that lead in.
abbrev pub may_enter : Question → Side → ℕ
may_enter q side = sum_nat (length q.lines) (λ i. if has_end side (line q i).dest && not (has_end side (line q i).origin) then (line q i).ceiling else 0)

abbrev pub can_leave : Question → Side → ℕ
can_leave q side = sum_nat (length q.elements) (λ e. way_out side e (element q e))

abbrev pub excess : Question → Side → ℤ
excess q side = (pos (must_leave q side) -ℤ pos (may_enter q side)) -ℤ pos (can_leave q side)

-- More must leave than the ways out and the lines that lead in allow.
abbrev pub IsCut : Question → Side → Type 0
IsCut q side = pos 0 <ℤ excess q side
