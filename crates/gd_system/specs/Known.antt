-- What holds of every pipeline.
use Rattle.std.specs.Prelude.{◌≡◌, ℕ, ◌+◌, ◌<◌, ◌≤◌, length}
use Rattle.gd_rules.specs.Question.{place_of}
use Rattle.gd_rules.specs.Limits.{most_segments, most_points, most_pools}
use Rattle.gd_tree.specs.Grown.{IsGrown}
use Rattle.gd_system.specs.Pipeline.{Pipeline, elements_of}
use Rattle.gd_system.specs.Route.{element_at}

-- A pipeline with a segment: its places form a tree, and each element hangs on one of them.
pub record IsSystem (p : Pipeline) : Type 0 where
  pub grown : IsGrown (length p.tree) (elements_of p)
  pub some : 0 < length p.tree
  pub few_segments : length p.tree ≤ most_segments
  pub placed : length p.places ≡ length p.tree + 1
  pub named : length p.segments ≡ length p.tree
  pub few_points : length p.points ≤ most_points
  pub few_pools : length p.pools ≤ most_pools
  pub hung : (e : ℕ) → e < length (elements_of p) → place_of (element_at p e) ≤ length p.tree
