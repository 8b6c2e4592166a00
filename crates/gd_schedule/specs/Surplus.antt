-- The surplus of each node: what lines bring to it, less what they take from it.
use Rattle.std.specs.Prelude.{◌≡◌, ℕ, ◌+◌, ◌*◌, ◌<◌, ◌≤◌, ℤ, pos, ◌+ℤ◌, unsigned_abs, Bool, List, length, get_or}
use Rattle.gd_scale.specs.Sum.{sum_nat, sum_int}
use Rattle.gd_rules.specs.Question.{Question, line}
use Rattle.gd_rules.specs.Schedule.{quantity}
use Rattle.gd_question.specs.Nodes.{start, stop, end_node, inside_part, carried}

-- what the first n nodes have inside a set
abbrev pub surplus_inside : (ℕ → Bool) → ℕ → List ℤ → ℤ
surplus_inside inside n surplus = sum_int n (λ v. inside_part (inside v) (get_or surplus v (pos 0)))

-- what the first k lines bring into a set, less what they take out of it
abbrev pub net_supply : Question → List ℕ → (ℕ → Bool) → ℕ → ℤ
net_supply q schedule inside k = sum_int k (λ i. carried (inside (end_node (line q i).dest)) (inside (end_node (line q i).origin)) (pos (quantity schedule i)))

-- what flows through the elements into a set
abbrev pub through : Question → (ℕ → Bool) → List ℤ → ℤ
through q inside table = sum_int (length q.elements) (λ e. carried (inside (start q e)) (inside (stop q e)) (get_or table e (pos 0)))

-- how much the first n nodes have, whether too much or too little
abbrev pub size : ℕ → List ℤ → ℕ
size n surplus = sum_nat n (λ v. unsigned_abs (get_or surplus v (pos 0)))

-- The surplus that the first k lines make.
pub record IsSurplus (q : Question) (schedule : List ℕ) (k : ℕ) (surplus : List ℤ) : Type 0 where
  pub sized : length surplus ≡ length q.elements + 1
  pub holds : (inside : ℕ → Bool) → surplus_inside inside (length q.elements + 1) surplus ≡ net_supply q schedule inside k
  pub small : size (length q.elements + 1) surplus ≤ k * 2000000000

-- All but the first n elements have carried the surplus of the nodes that they bring to earlier ones, and the table tells how much each.
pub record IsPassedOn (q : Question) (schedule : List ℕ) (n : ℕ) (surplus table : List ℤ) : Type 0 where
  pub sized : length surplus ≡ length q.elements + 1
  pub long : length table ≡ length q.elements
  pub holds : (inside : ℕ → Bool) → surplus_inside inside (n + 1) surplus ≡ net_supply q schedule inside (length q.lines) +ℤ through q inside table
  pub left : (e : ℕ) → e < n → get_or table e (pos 0) ≡ pos 0
  pub small : size (n + 1) surplus ≤ length q.lines * 2000000000
