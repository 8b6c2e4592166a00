-- What holds of a pipeline while it is built.
use Rattle.std.specs.Prelude.{◌≡◌, ◌+◌, ◌<◌, ◌≤◌, ◌==◌, length, if◌then◌else◌, All}
use Rattle.gd_rules.specs.Limits.{most_segments, most_points, most_pools}
use Rattle.gd_system.specs.Pipeline.{Pipeline}

-- A pipeline in the making: its segments join one place more than they are, or none where there is none, and points and pools hang on places that they join.
pub record IsBuilt (p : Pipeline) : Type 0 where
  pub placed : length p.places ≡ (if length p.tree == 0 then 0 else length p.tree + 1)
  pub named : length p.segments ≡ length p.tree
  pub few_segments : length p.tree ≤ most_segments
  pub few_points : length p.points ≤ most_points
  pub few_pools : length p.pools ≤ most_pools
  pub points_hung : All (λ e. e.1.place.0 < length p.places) p.points
  pub pools_hung : All (λ e. e.1.place.0 < length p.places) p.pools
