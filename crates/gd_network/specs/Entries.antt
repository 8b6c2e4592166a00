-- Lists that are built entry by entry.
use Rattle.std.specs.Prelude.{◌≡◌, ℕ, ◌-◌, ◌/◌, ◌%◌, ◌<◌, ◌≤ℤ◌, ℤ, pos, List, length, get_or, nat_lt, if◌then◌else◌}
use Rattle.gd_rules.specs.Limits.{most_dekatherms}
use Rattle.gd_rules.specs.Question.{Question, element, line}
use Rattle.gd_rules.specs.Schedule.{quantity, load}
use Rattle.gd_network.specs.declared.arcs.Arc.{Arc}
use Rattle.gd_network.specs.Arcs.{Net, element_arc, line_arc, no_arc, upper_at}
use Rattle.gd_network.specs.Flow.{part_of}

-- The list is f 0, f 1 and so on, n long.
pub record Holds {X : Type 0} (d : X) (xs : List X) (n : ℕ) (f : ℕ → X) : Type 0 where
  pub size : length xs ≡ n
  pub at : (k : ℕ) → k < n → get_or xs k d ≡ f k

-- One function for the arcs of elements, and one for those of the lines' tenths.
abbrev pub by_kind : {X : Type 0} → Question → (ℕ → X) → (ℕ → ℕ → X) → ℕ → X
by_kind q f g a =
    if nat_lt a (length q.elements) then f a
    else g ((a - length q.elements) / 10) ((a - length q.elements) % 10)

abbrev pub arc_is : Question → ℕ → Arc
arc_is q = by_kind q (λ e. element_arc e (element q e)) (λ i j. line_arc (line q i) j)

-- The first n arcs of a question's network, none of which carries more than the greatest quantity.
pub record FirstArcs (q : Question) (n : ℕ) (arcs : Net) : Type 0 where
  pub held : Holds no_arc arcs n (arc_is q)
  pub small : (a : ℕ) → upper_at arcs a ≤ℤ pos most_dekatherms

-- What the first n arcs carry of a schedule.
abbrev pub FirstFlows : Question → List ℕ → ℕ → List ℤ → Type 0
FirstFlows q schedule n flow =
    Holds (pos 0) flow n
    (by_kind q (load q schedule) (λ i j. pos (part_of (line q i).ceiling (quantity schedule i) j)))
