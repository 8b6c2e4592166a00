-- Potentials of nodes, under which no arc with room gains, and the prices that they give.
use Rattle.std.specs.Prelude.{◌≡◌, ℕ, ◌+◌, ◌<◌, ◌<ℤ◌, ℤ, List, length}
use Rattle.gd_scale.specs.Scale.{Scale, AtMost}
use Rattle.gd_scale.specs.Laws.{less}
use Rattle.gd_rules.specs.Question.{Question, line}
use Rattle.gd_rules.specs.Priced.{price}
use Rattle.gd_network.specs.Arcs.{Net, from_at, to_at, lower_at, upper_at, tenth_arc}
use Rattle.gd_question.specs.Nodes.{start, stop}
use Rattle.gd_network.specs.Flow.{flow_at}

-- An element's arc gains nothing, and that of a line's tenth what a dekatherm in it is worth.
pub record IsGains {V : Type 0} (s : Scale V) (unit : ℕ → ℕ → V) (q : Question) (gain : ℕ → V) : Type 0 where
  pub elements : (e : ℕ) → e < length q.elements → gain e ≡ s.none
  pub tenths : (i j : ℕ) → i < length q.lines → j < 10 → gain (tenth_arc q i j) ≡ unit (line q i).class (j + 1)

-- Along no arc that can carry more, and back along none that can carry less, is there a label to raise.
pub record IsStill {V : Type 0} (s : Scale V) (n : Net) (flow : List ℤ) (gain : ℕ → V) (label : ℕ → V) : Type 0 where
  pub along : (a : ℕ) → a < length n → flow_at flow a <ℤ upper_at n a
      → AtMost s (s.plus (label (from_at n a)) (gain a)) (label (to_at n a))
  pub back : (a : ℕ) → a < length n → lower_at n a <ℤ flow_at flow a
      → AtMost s (s.plus (label (to_at n a)) (s.minus (gain a))) (label (from_at n a))

-- An element's price is how far its arc's end lies below its start.
pub record ArePrices {V : Type 0} (s : Scale V) (q : Question) (label : ℕ → V) (prices : List V) : Type 0 where
  pub shape : length prices ≡ length q.elements
  pub falls : (e : ℕ) → e < length q.elements → price s prices e ≡ less s (label (start q e)) (label (stop q e))
