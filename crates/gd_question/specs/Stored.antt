-- Lines in memory, and the capacities kept with them.
use Rattle.std.specs.Prelude.{◌≡◌, ℕ, ◌+◌, ◌<◌, ◌≤◌, List, length, get_or, Some}
use Rattle.gd_rules.specs.Limits.{classes}
use Rattle.gd_system.specs.Pipeline.{Pipeline}
use Rattle.gd_system.specs.Route.{element_at}
use Rattle.gd_system.specs.Ends.{AreEnds}
use Rattle.gd_system.specs.declared.part.Ends.{Ends}
use Rattle.gd_question.specs.Known.{limit_of}
use Rattle.gd_question.specs.declared.question.Row.{Row}

abbrev pub ends_of_row : Row → Ends
ends_of_row row = row.ends

-- The line's ends are ends of the pipeline with a route between them, and its numbers are within their bounds.
pub record IsRow (p : Pipeline) (row : Row) : Type 0 where
  pub ends : AreEnds p row.ends
  pub bounds : row.floor ≤ row.ceiling
  pub classed : (1 ≤ row.class) × (row.class ≤ classes)

-- The pipeline's own capacities, of its segments and points.
pub record AreOwn (p : Pipeline) (limits : List ℕ) : Type 0 where
  pub sized : length limits ≡ length p.tree + length p.points
  pub own : (k : ℕ) → k < length limits → limit_of (element_at p k) ≡ Some (get_or limits k 0)
