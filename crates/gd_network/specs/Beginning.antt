-- What a network knows, and the schedule with which a search begins.
use Rattle.std.specs.Prelude.{◌≡◌, ℕ, ◌^◌, ◌<◌, ℤ, pos, ◌≤ℤ◌, List, [], ◌∷◌, length, min, max}
use Rattle.gd_rules.specs.Limits.{most_dekatherms}
use Rattle.gd_rules.specs.Question.{Line}
use Rattle.gd_question.specs.Posing.{Posed}
use Rattle.gd_schedule.specs.Sizes.{IsSized}
use Rattle.gd_network.specs.Arcs.{Net, from_at, to_at, lower_at, upper_at}
use Rattle.gd_network.specs.Flow.{flow_at}

-- A question, the arcs of its network, and the flow with which a search begins.
pub record Laid : Type 0 where
  pub question : Posed
  pub arcs : Net
  pub first : List ℤ

-- A quantity brought between a line's floor and its ceiling.
abbrev pub clamped : Line → ℕ → ℕ
clamped l n = min (max n l.floor) l.ceiling

-- A schedule brought within bounds: an entry for each line, a missing one 0, each between floor and ceiling. What is
-- past the lines is dropped.
abbrev pub clamped_schedule : List Line → List ℕ → List ℕ
clamped_schedule [] schedule = []
clamped_schedule (l ∷ lines) [] = clamped l 0 ∷ clamped_schedule lines []
clamped_schedule (l ∷ lines) (n ∷ schedule) = clamped l n ∷ clamped_schedule lines schedule

-- The arcs join the nodes of a question, one more than its elements; no bound is below 0, none above the
-- greatest quantity, and no lower one above the upper one.
pub record AreSound (nodes : ℕ) (n : Net) : Type 0 where
  pub from : (a : ℕ) → a < length n → from_at n a < nodes
  pub to : (a : ℕ) → a < length n → to_at n a < nodes
  pub lower : (a : ℕ) → a < length n → pos 0 ≤ℤ lower_at n a
  pub bounds : (a : ℕ) → a < length n → lower_at n a ≤ℤ upper_at n a
  pub upper : (a : ℕ) → a < length n → upper_at n a ≤ℤ pos most_dekatherms

-- There is a flow for each arc, and none is too large to count with.
pub record IsFirst (n : Net) (flow : List ℤ) : Type 0 where
  pub size : length flow ≡ length n
  pub small : (a : ℕ) → a < length n → IsSized (2 ^ 61) (flow_at flow a)
