-- What is known of every question.
use Rattle.std.specs.Prelude.{ℕ, ◌<◌, ◌≤◌, length, Option, Some, None}
use Rattle.gd_rules.specs.Question.{Element, Question, line}
use Rattle.gd_rules.specs.Question.Element.{Segment, Receipt, Delivery, Pool}
use Rattle.gd_rules.specs.Tree.{HasLines}
use Rattle.gd_rules.specs.Limits.{most_lines, most_elements, most_segments}

-- What may pass at most: no limit stands at a pool, whose load is 0.
abbrev pub limit_of : Element → Option ℕ
limit_of (Segment from to capacity) = Some capacity
limit_of (Receipt place capacity) = Some capacity
limit_of (Delivery place capacity) = Some capacity
limit_of (Pool place) = None

-- Each line has its route, and lines, elements and routes are within their limits.
pub record IsKnown (q : Question) : Type 0 where
  pub lined : HasLines q
  pub few_lines : length q.lines ≤ most_lines
  pub few_elements : length q.elements ≤ most_elements
  pub short : (i : ℕ) → i < length q.lines → length (line q i).route ≤ most_segments
