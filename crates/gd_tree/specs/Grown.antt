-- Elements of a pipeline that grew place by place, and the one route between two of its places.
use Rattle.std.specs.Prelude.{◌≡◌, ℕ, suc, ◌<◌, ◌≤◌, Bool, true, false, ◌&&◌, List, [], ◌∷◌, get_or, map, ◌==◌, if◌then◌else◌, ◌⊎◌}
use Rattle.gd_rules.specs.Question.{Element}
use Rattle.gd_rules.specs.Question.Element.{Segment, Receipt, Delivery, Pool}
use Rattle.gd_rules.specs.Tree.{Follows}
use Rattle.gd_tree.specs.Walk.{walk}

-- Segment k joins place k + 1 to an earlier one, in either direction.
abbrev pub Joins : ℕ → Element → Type 0
Joins k (Segment from to capacity) = ((from ≡ suc k) × (to ≤ k)) ⊎ ((to ≡ suc k) × (from ≤ k))
Joins k (Receipt place capacity) = ⊥
Joins k (Delivery place capacity) = ⊥
Joins k (Pool place) = ⊥

abbrev pub IsNoSegment : Element → Type 0
IsNoSegment (Segment from to capacity) = ⊥
IsNoSegment (Receipt place capacity) = Unit {0}
IsNoSegment (Delivery place capacity) = Unit {0}
IsNoSegment (Pool place) = Unit {0}

-- The first n elements are segments, each joining one new place, and no other is a segment.
pub record IsGrown (n : ℕ) (elements : List Element) : Type 0 where
  pub joins : (k : ℕ) → k < n → Joins k (get_or elements k (Pool 0))
  pub others : (k : ℕ) → n ≤ k → IsNoSegment (get_or elements k (Pool 0))

-- The earlier place of segment k.
abbrev pub earlier : ℕ → Element → ℕ
earlier k (Segment from to capacity) = if from == suc k then to else from
earlier k (Receipt place capacity) = 0
earlier k (Delivery place capacity) = 0
earlier k (Pool place) = 0

abbrev pub low_of : List Element → ℕ → ℕ
low_of elements k = earlier k (get_or elements k (Pool 0))

-- The steps from a to b among the n + 1 places of n segments.
abbrev pub walk_of : List Element → ℕ → ℕ → ℕ → List (ℕ × ℕ)
walk_of elements n a b = walk (low_of elements) n a b

-- The segments passed from a to b.
abbrev pub route_of : List Element → ℕ → ℕ → ℕ → List ℕ
route_of elements n a b = map (λ s. s.0) (walk_of elements n a b)

-- From a to b each segment is passed along its direction.
abbrev pub Runs : List Element → ℕ → ℕ → ℕ → Type 0
Runs elements n a b = Follows elements a (walk_of elements n a b) b

-- Whether the segment leads from a to b.
abbrev pub leads : Element → ℕ → ℕ → Bool
leads (Segment from to capacity) a b = (from == a) && (to == b)
leads (Receipt place capacity) a b = false
leads (Delivery place capacity) a b = false
leads (Pool place) a b = false

-- Whether the steps from a are along the segments' directions, each beginning where the one before ended.
abbrev pub goes_along : List Element → ℕ → List (ℕ × ℕ) → Bool
goes_along elements a [] = true
goes_along elements a (s ∷ steps) = leads (get_or elements s.0 (Pool 0)) a s.1 && goes_along elements s.1 steps

-- Whether there is a route from a to b among the n + 1 places of n segments.
abbrev pub has_route : List Element → ℕ → ℕ → ℕ → Bool
has_route elements n a b = goes_along elements a (walk_of elements n a b)
