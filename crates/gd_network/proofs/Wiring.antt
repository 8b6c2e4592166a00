-- What a network's arcs have, part by part.
use Rattle.std.proofs.Common.{◌≡◌, ℕ, ◌+◌, ◌*◌, ◌<◌, length, ap}
use Rattle.std.specs.Prelude.{pos}
use Rattle.gd_rules.specs.Question.{Question, element, line}
use Rattle.gd_network.specs.declared.arcs.Arc.{Arc}
use Rattle.gd_network.specs.Arcs.{Net, IsNetwork, from_at, to_at, lower_at, upper_at, most_of, most_part, least_part, tenth_arc}
use Rattle.gd_question.specs.Nodes.{start, stop, end_node}

pub record IsWired (q : Question) (n : Net) : Type 0 where
  pub size : length n ≡ length q.elements + 10 * length q.lines
  pub from : (e : ℕ) → e < length q.elements → from_at n e ≡ start q e
  pub to : (e : ℕ) → e < length q.elements → to_at n e ≡ stop q e
  pub least : (e : ℕ) → e < length q.elements → lower_at n e ≡ pos 0
  pub most : (e : ℕ) → e < length q.elements → upper_at n e ≡ pos (most_of (element q e))
  pub line_from : (i j : ℕ) → i < length q.lines → j < 10 → from_at n (tenth_arc q i j) ≡ end_node (line q i).dest
  pub line_to : (i j : ℕ) → i < length q.lines → j < 10 → to_at n (tenth_arc q i j) ≡ end_node (line q i).origin
  pub line_least : (i j : ℕ) → i < length q.lines → j < 10 → lower_at n (tenth_arc q i j) ≡ pos (least_part (line q i).ceiling (line q i).floor j)
  pub line_most : (i j : ℕ) → i < length q.lines → j < 10 → upper_at n (tenth_arc q i j) ≡ pos (most_part (line q i).ceiling j)

pub wired : (q : Question) (n : Net) → IsNetwork q n → IsWired q n
wired q n w = record {
  size = w.size;
  from = λ e h. ap (λ (x : Arc). x.from) (w.elements e h);
  to = λ e h. ap (λ (x : Arc). x.to) (w.elements e h);
  least = λ e h. ap (λ (x : Arc). x.lower) (w.elements e h);
  most = λ e h. ap (λ (x : Arc). x.upper) (w.elements e h);
  line_from = λ i j h k. ap (λ (x : Arc). x.from) (w.tenths i j h k);
  line_to = λ i j h k. ap (λ (x : Arc). x.to) (w.tenths i j h k);
  line_least = λ i j h k. ap (λ (x : Arc). x.lower) (w.tenths i j h k);
  line_most = λ i j h k. ap (λ (x : Arc). x.upper) (w.tenths i j h k);
}
