-- The events of a search: each labels a node, and all but the first come from an earlier event by a link.
use Rattle.std.specs.Prelude.{◌≡◌, ℕ, ◌-◌, ◌*◌, ◌<◌, ◌≤◌, ℤ, pos, Bool, false, List, [], ◌∷◌, length, get_or, eqb, IsTrue, sum_by}
use Rattle.std.specs.List.{IsDistinct, AllByRecursion}
use Rattle.std.specs.Ordering.{is_gt}
use Rattle.gd_scale.specs.Scale.{Scale}
use Rattle.gd_labels.specs.Links.{node_at, most_gain}
use Rattle.gd_labels.specs.Findings.{label_at}

-- Whether x is above y.
abbrev pub above : {V : Type 0} → Scale V → V → V → Bool
above s x y = is_gt (s.order x y)

-- What taking link i would make of the label of the node to which it leads.
abbrev pub reached_at : {V : Type 0} → Scale V → List ℕ → List V → List V → ℕ → V
reached_at s from gain label i = s.plus (label_at s label (node_at from i)) (get_or gain i s.none)

-- Whether that would raise it.
abbrev pub improves_at : {V : Type 0} → Scale V → List ℕ → List ℕ → List V → List V → ℕ → Bool
improves_at s from to gain label i = above s (reached_at s from gain label i) (label_at s label (node_at to i))

-- The nodes to which the walk of event e led, from the last to the first; the events below count begin a walk.
abbrev pub Chain : List ℕ → List ℕ → ℕ → ℕ → List ℕ → Type 0
Chain node before count e [] = ⊥
Chain node before count e (v ∷ []) = (e < count) × (node_at node e ≡ v)
Chain node before count e (v ∷ (u ∷ us)) =
    (count ≤ e) × (node_at node e ≡ v) × Chain node before count (get_or before e 0) (u ∷ us)

-- v is not among us.
abbrev pub NotIn : ℕ → List ℕ → Type 0
NotIn v us = AllByRecursion (λ u. eqb v u ≡ false) us

-- The first events, as many as nodes, begin walks. Each later one has the value of the event before it and the gain
-- of its link together. No value is above the label of its node, which is the value of the node's last event.
-- No walk leads to a node twice, so that a value fits what so many links can gain. The program keeps no values.
pub record AreEvents {V : Type 0} (s : Scale V) (within : ℤ → V → Bool) (from to : List ℕ)
    (gain : List V) (node before link current : List ℕ) (label : List V) : Type 0 where
  pub value : List V
  pub labels : length label ≡ length current
  pub befores : length before ≡ length node
  pub links : length link ≡ length node
  pub values : length value ≡ length node
  pub roots : length current ≤ length node
  pub in_range : (e : ℕ) → e < length node → node_at node e < length current
  pub earlier : (e : ℕ) → length current ≤ e → e < length node → get_or before e 0 < e
  pub linked : (e : ℕ) → length current ≤ e → e < length node → get_or link e 0 < length from
  pub starts : (e : ℕ) → length current ≤ e → e < length node
      → node_at from (get_or link e 0) ≡ node_at node (get_or before e 0)
  pub ends : (e : ℕ) → length current ≤ e → e < length node → node_at to (get_or link e 0) ≡ node_at node e
  pub adds : (e : ℕ) → length current ≤ e → e < length node
      → get_or value e s.none ≡ s.plus (get_or value (get_or before e 0) s.none) (get_or gain (get_or link e 0) s.none)
  pub not_above : (e : ℕ) → e < length node
      → above s (get_or value e s.none) (label_at s label (node_at node e)) ≡ false
  pub newest : (v : ℕ) → v < length current → get_or current v 0 < length node
  pub newest_node : (v : ℕ) → v < length current → node_at node (get_or current v 0) ≡ v
  pub newest_value : (v : ℕ) → v < length current → get_or value (get_or current v 0) s.none ≡ label_at s label v
  pub chain : (e : ℕ) → e < length node → (us : List ℕ) × Chain node before (length current) e us
      × IsDistinct eqb us × IsTrue (within (pos (most_gain * length us)) (get_or value e s.none))

-- The walk to the start of link i does not lead to its end.
abbrev pub AvoidsAt : List ℕ → List ℕ → List ℕ → List ℕ → List ℕ → ℕ → Type 0
AvoidsAt from to node before current i =
    (us : List ℕ) → Chain node before (length current) (get_or current (node_at from i) 0) us
    → NotIn (node_at to i) us

-- How far the labels can still rise, by their ranks among the values that fit a bound.
abbrev pub slack : {V : Type 0} → (ℕ → ℕ) → (ℕ → V → ℕ) → ℕ → List V → ℕ
slack size rank bound label = sum_by (λ x. size bound - rank bound x) label
