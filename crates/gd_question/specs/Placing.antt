-- Where the elements of a question stand in its pipeline.
use Rattle.std.specs.Prelude.{ℕ, ◌<◌, ◌≤◌, length}
use Rattle.gd_rules.specs.Question.{Question, element, place_of}
use Rattle.gd_rules.specs.Limits.{most_segments}
use Rattle.gd_question.specs.Nodes.{AllBring}
use Rattle.gd_tree.specs.Grown.{IsGrown}
use Rattle.gd_system.specs.Pipeline.{Pipeline}

-- The first elements are the pipeline's segments, which join its places in turn, and each element hangs on one of these places.
pub record IsPlaced (p : Pipeline) (q : Question) : Type 0 where
  pub grown : IsGrown (length p.tree) q.elements
  pub few_segments : length p.tree ≤ most_segments
  pub first : length p.tree ≤ length q.elements
  pub brings : AllBring q
  pub hung : (e : ℕ) → e < length q.elements → place_of (element q e) ≤ length p.tree
