-- A set of places, points and pools by kind, and the side that it is.
use Rattle.std.specs.Prelude.{Bool, false, List, length, ◌++◌, replicate}
use Rattle.gd_rules.specs.Cut.{Side}
use Rattle.gd_system.specs.Pipeline.{Pipeline}

-- Which places, points and pools are inside.
pub record Members : Type 0 where
  pub places : List Bool
  pub points : List Bool
  pub pools : List Bool

-- Ends stand by element number: segments first, which are no ends, then points, then pools.
abbrev pub side_of : Pipeline → Members → Side
side_of p cut = record { places = cut.places; ends = replicate (length p.tree) false ++ (cut.points ++ cut.pools) }
