-- Levels of all places, which rise along each segment by its price.
use Rattle.std.specs.Prelude.{◌≡◌, ℕ, ◌+◌, ◌<◌, ◌^◌, ℤ, pos, Bool, List, length, get_or, IsTrue}
use Rattle.gd_scale.specs.Scale.{Scale}
use Rattle.gd_rules.specs.Question.{Element}
use Rattle.gd_rules.specs.Priced.{price}
use Rattle.gd_rules.specs.Limits.{most_price_word}
use Rattle.gd_tree.specs.Levels.{AreLevels}
use Rattle.gd_question.specs.Posing.{Posed}

abbrev pub level : {V : Type 0} → Scale V → List V → ℕ → V
level s levels place = get_or levels place s.none

-- One for each place, each at most 2^52 in size.
pub record HasLevels {V : Type 0} (s : Scale V) (within : ℤ → V → Bool) (elements : List Element) (places : ℕ) (prices levels : List V) : Type 0 where
  pub long : length levels ≡ places
  pub rises : AreLevels s elements (price s prices) (level s levels)
  pub small : (place : ℕ) → IsTrue (within (pos (2 ^ 52)) (level s levels place))

-- All that margins are reckoned from: one price for each element, none too large, and the levels that they make.
pub record AreReady {V : Type 0} (s : Scale V) (within : ℤ → V → Bool) (q : Posed) (prices heights : List V) : Type 0 where
  pub shape : length prices ≡ length q.asked.elements
  pub small : (e : ℕ) → e < length q.asked.elements → IsTrue (within (pos most_price_word) (price s prices e))
  pub levels : HasLevels s within q.asked.elements (length q.pipeline.tree + 1) prices heights
