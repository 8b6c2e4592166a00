-- A pipeline by names, and its elements by number.
use Rattle.std.specs.Prelude.{ℕ, Bool, ◌==◌, List, ◌++◌, map, get_or, Option, Some, None, position}
use Rattle.std.specs.Cmp.Lexicographic.{pointwise}
use Rattle.gd_rules.specs.Question as rules
use Rattle.gd_rules.specs.Question.Element.{Segment as segment, Receipt as receipt, Delivery as delivery, Pool as pool}
use Rattle.gd_units.specs.declared.service.Kind.{Kind}
use Rattle.gd_units.specs.declared.service.Kind.TheVariants.{Receipt, Delivery}
use Rattle.gd_system.specs.declared.part.Point.{Point}
use Rattle.gd_system.specs.declared.part.Pool.{Pool}

-- Names of places in order of first mention; segments with their names, points and pools by name, each in order of entry.
pub record Pipeline : Type 0 where
  pub places : List (List ℕ)
  pub segments : List (List ℕ)
  pub tree : List rules.Element
  pub points : List (List ℕ × Point)
  pub pools : List (List ℕ × Pool)

abbrev pub point_element : Kind → ℕ → ℕ → rules.Element
point_element Receipt place capacity = receipt place capacity
point_element Delivery place capacity = delivery place capacity

-- The elements by number: segments, then points, then pools.
abbrev pub elements_of : Pipeline → List rules.Element
elements_of p = p.tree ++ map (λ e. point_element e.1.kind e.1.place.0 e.1.capacity) p.points ++ map (λ e. pool e.1.place.0) p.pools

-- The names of the elements by number.
abbrev pub names_of : Pipeline → List (List ℕ)
names_of p = p.segments ++ map (λ e. e.0) p.points ++ map (λ e. e.0) p.pools

-- The capacity of a segment or point; a pool has none.
abbrev pub capacity_of : rules.Element → Option ℕ
capacity_of (segment from to capacity) = Some capacity
capacity_of (receipt place capacity) = Some capacity
capacity_of (delivery place capacity) = Some capacity
capacity_of (pool place) = None

abbrev pub same_name : List ℕ → List ℕ → Bool
same_name a b = pointwise ◌==◌ a b

abbrev pub number_of : List (List ℕ) → List ℕ → Option ℕ
number_of names name = position (same_name name) names

-- The number of an element by its name.
abbrev pub element_number : Pipeline → List ℕ → Option ℕ
element_number p name = number_of (names_of p) name

-- The operators of the elements by number: a segment has none.
abbrev pub operators_of : Pipeline → List (Option (List ℕ))
operators_of p = map (λ s. None) p.tree ++ map (λ e. Some e.1.operator) p.points ++ map (λ e. Some e.1.operator) p.pools

abbrev pub operator_at : Pipeline → ℕ → Option (List ℕ)
operator_at p e = get_or (operators_of p) e None
