-- What the fields of a question stand for.
use Rattle.std.specs.Prelude.{◌≡◌, ℕ, ◌+◌, ◌<◌, ◌≤◌, map, length, get_or}
use Rattle.gd_rules.specs.Limits.{most_lines}
use Rattle.gd_system.specs.Pipeline.{elements_of}
use Rattle.gd_system.specs.Known.{IsSystem}
use Rattle.gd_question.specs.Posing.{Posed}
use Rattle.gd_question.specs.InForce.{in_force}
use Rattle.gd_question.specs.Rows.{line_of}
use Rattle.gd_question.specs.Stored.{IsRow}
use Rattle.gd_question.specs.declared.question.Row.{Row}
use Rattle.gd_question.specs.declared.question.Question.TheInside.{Inside}

abbrev pub posed_of : Inside → Posed
posed_of q = record {
  pipeline = q.system;
  asked = record { elements = in_force (elements_of q.system) q.capacities.items; lines = map (line_of q.system) q.rows.items };
  book = q.book;
  cycle = q.cycle;
  round = q.round;
}

-- There is a capacity for each segment and each point, and each line is sound.
pub record IsSound (q : Inside) : Type 0 where
  pub system : IsSystem q.system
  pub limited : length q.capacities.items ≡ length q.system.tree + length q.system.points
  pub few : length q.rows.items ≤ most_lines
  pub rows : (i : ℕ) (row : Row) → i < length q.rows.items → row ≡ get_or q.rows.items i row → IsRow q.system row
