-- A question as it is posed, and a line over the route between its ends.
use Rattle.std.specs.Prelude.{ℕ, List, length}
use Rattle.gd_rules.specs.Question as rules
use Rattle.gd_tree.specs.Grown.{route_of}
use Rattle.gd_system.specs.Pipeline.{Pipeline, elements_of}
use Rattle.gd_system.specs.declared.part.Ends.{Ends}

-- The pipeline with its own capacities, what is asked with those in force, and of which book, cycle and round.
pub record Posed : Type 0 where
  pub pipeline : Pipeline
  pub asked : rules.Question
  pub book : List ℕ
  pub cycle : ℕ
  pub round : ℕ

-- A line between these ends, over their route.
abbrev pub line_between : Pipeline → Ends → ℕ → ℕ → ℕ → rules.Line
line_between p ends class floor ceiling = record {
  origin = ends.origin.0;
  dest = ends.dest.0;
  route = route_of (elements_of p) (length p.tree) ends.origin_place.0 ends.dest_place.0;
  class = class;
  floor = floor;
  ceiling = ceiling;
}
