-- The pipeline is a tree of one-way segments between places, and a route is the one way along it (own: no loops, no backhaul).
-- Each point and each pool hangs on one place.
use Rattle.std.specs.Prelude.{◌≡◌, ◌≢◌, ℕ, ◌<◌, ◌≤◌, List, [], ◌∷◌, length, get_or, nat_eq, ◌⊎◌, map}
use Rattle.std.specs.List.{IsDistinct}
use Rattle.gd_rules.specs.Question.{Element, Line, Question, element, line, place_of}
use Rattle.gd_rules.specs.Question.Element.{Segment, Receipt, Delivery, Pool}
use Rattle.gd_rules.specs.Limits.{classes}

-- The segment leads from a to b.
abbrev pub LeadsTo : Element → ℕ → ℕ → Type 0
LeadsTo (Segment from to capacity) a b = (from ≡ a) × (to ≡ b)
LeadsTo (Receipt place capacity) a b = ⊥
LeadsTo (Delivery place capacity) a b = ⊥
LeadsTo (Pool place) a b = ⊥

-- A walk is the segments taken and the places that they lead to, in order. Each is passed one way or the other.
abbrev pub IsWalk : List Element → ℕ → List (ℕ × ℕ) → ℕ → Type 0
IsWalk elements a [] b = a ≡ b
IsWalk elements a (s ∷ steps) b = (LeadsTo (get_or elements s.0 (Pool 0)) a s.1 ⊎ LeadsTo (get_or elements s.0 (Pool 0)) s.1 a) × IsWalk elements s.1 steps b

-- A walk that repeats no place.
abbrev pub IsPath : List Element → ℕ → List (ℕ × ℕ) → ℕ → Type 0
IsPath elements a steps b = IsWalk elements a steps b × IsDistinct nat_eq (a ∷ map (λ s. s.1) steps)

-- Any two places are joined by exactly one walk that repeats no place.
abbrev pub IsTree : ℕ → List Element → Type 0
IsTree places elements = (a b : ℕ) → a < places → b < places → (steps : List (ℕ × ℕ)) × IsPath elements a steps b × ((others : List (ℕ × ℕ)) → IsPath elements a others b → others ≡ steps)

-- Each segment is passed along its direction, and begins where the one before ended.
abbrev pub Follows : List Element → ℕ → List (ℕ × ℕ) → ℕ → Type 0
Follows elements a [] b = a ≡ b
Follows elements a (s ∷ steps) b = LeadsTo (get_or elements s.0 (Pool 0)) a s.1 × Follows elements s.1 steps b

-- The segments lead from a to b, each along its direction, and no place comes twice.
abbrev pub IsRoute : List Element → ℕ → List ℕ → ℕ → Type 0
IsRoute elements a route b = (steps : List (ℕ × ℕ)) × (route ≡ map (λ s. s.0) steps) × Follows elements a steps b × IsDistinct nat_eq (a ∷ map (λ s. s.1) steps)

-- The line's route is that from the place of its origin to the place of its destination.
abbrev pub HasItsRoute : Question → Line → Type 0
HasItsRoute q l = IsRoute q.elements (place_of (element q l.origin)) l.route (place_of (element q l.dest))

-- Gas comes into the pipeline at receipt points and out of pools, and leaves it at delivery points and into pools.
abbrev pub CanSend : Element → Type 0
CanSend (Segment from to capacity) = ⊥
CanSend (Receipt place capacity) = Unit {0}
CanSend (Delivery place capacity) = ⊥
CanSend (Pool place) = Unit {0}

abbrev pub CanTake : Element → Type 0
CanTake (Segment from to capacity) = ⊥
CanTake (Receipt place capacity) = ⊥
CanTake (Delivery place capacity) = Unit {0}
CanTake (Pool place) = Unit {0}

pub record IsLine (q : Question) (l : Line) : Type 0 where
  pub origin_known : l.origin < length q.elements
  pub dest_known : l.dest < length q.elements
  pub sends : CanSend (element q l.origin)
  pub takes : CanTake (element q l.dest)
  pub apart : l.origin ≢ l.dest
  pub routed : HasItsRoute q l
  pub bounds : l.floor ≤ l.ceiling
  pub classed : (1 ≤ l.class) × (l.class ≤ classes)

-- Each line leads from one end to another, over its route.
abbrev pub HasLines : Question → Type 0
HasLines q = (i : ℕ) → i < length q.lines → IsLine q (line q i)
