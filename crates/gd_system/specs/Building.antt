-- What may be added to a pipeline, and what it is then.
use Rattle.std.specs.Prelude.{ℕ, Bool, List, [], ◌∷◌, ◌++◌, length, Option, Some, None, if◌then◌else◌, nat_le, Result, Ok, Err}
use Rattle.std.specs.List.{list_any}
use Rattle.gd_rules.specs.Limits.{most_segments, most_points, most_pools}
use Rattle.gd_rules.specs.Question.Element.{Segment as segment}
use Rattle.gd_system.specs.Join.{join_of}
use Rattle.gd_system.specs.declared.BuildFault.{BuildFault}
use Rattle.gd_system.specs.declared.BuildFault.TheVariants.{Duplicate, Unjoined, UnknownPlace, TooMany}
use Rattle.gd_units.specs.declared.service.Kind.{Kind}
use Rattle.gd_system.specs.Pipeline.{Pipeline, names_of, same_name, number_of}

abbrev pub empty : Pipeline
empty = record { places = []; segments = []; tree = []; points = []; pools = [] }

abbrev pub known : List (List ℕ) → List ℕ → Bool
known names name = list_any (same_name name) names

-- The list after a name, which goes last where it is new.
abbrev pub entered : List (List ℕ) → List ℕ → List (List ℕ)
entered names name = if known names name then names else names ++ name ∷ []

-- The places that a segment from one name to another joins.
abbrev pub joined : Pipeline → List ℕ → List ℕ → Option (ℕ × ℕ)
joined p from to = join_of (length p.tree) (same_name from to) (number_of p.places from) (number_of p.places to)

abbrev pub joined_within : ℕ → Option (ℕ × ℕ) → Result (ℕ × ℕ) BuildFault
joined_within segments None = Err Unjoined
joined_within segments (Some ends) = if nat_le most_segments segments then Err TooMany else Ok ends

-- The first refusal of a segment, or the places that it joins. There is one place more than segments.
abbrev pub checked_segment : Pipeline → List ℕ → List ℕ → List ℕ → Result (ℕ × ℕ) BuildFault
checked_segment p name from to = if known (names_of p) name then Err Duplicate else joined_within (length p.tree) (joined p from to)

abbrev pub placed_within : ℕ → ℕ → Option ℕ → Result ℕ BuildFault
placed_within limit count None = Err UnknownPlace
placed_within limit count (Some place) = if nat_le limit count then Err TooMany else Ok place

-- The first refusal of a point, or the number of its place.
abbrev pub checked_point : Pipeline → List ℕ → List ℕ → Result ℕ BuildFault
checked_point p name place = if known (names_of p) name then Err Duplicate else placed_within most_points (length p.points) (number_of p.places place)

-- The first refusal of a pool, or the number of its place.
abbrev pub checked_pool : Pipeline → List ℕ → List ℕ → Result ℕ BuildFault
checked_pool p name place = if known (names_of p) name then Err Duplicate else placed_within most_pools (length p.pools) (number_of p.places place)

-- The pipeline with a segment that joins these places.
abbrev pub with_segment : Pipeline → List ℕ → List ℕ → List ℕ → ℕ × ℕ → ℕ → Pipeline
with_segment p name from to ends capacity = record p {
  places = entered (entered p.places from) to;
  segments = p.segments ++ name ∷ [];
  tree = p.tree ++ segment ends.0 ends.1 capacity ∷ [];
}

-- The pipeline with a point at the place of this number.
abbrev pub with_point : Pipeline → List ℕ → Kind → ℕ → List ℕ → ℕ → Pipeline
with_point p name kind place operator capacity = record p { points = p.points ++ (name, record { kind = kind; place = record { 0 = place }; operator = operator; capacity = capacity }) ∷ [] }

-- The pipeline with a pool at the place of this number.
abbrev pub with_pool : Pipeline → List ℕ → ℕ → List ℕ → Pipeline
with_pool p name place operator = record p { pools = p.pools ++ (name, record { place = record { 0 = place }; operator = operator }) ∷ [] }

abbrev pub built : {A : Type 0} → (A → Pipeline) → Result A BuildFault → Result Pipeline BuildFault
built f (Ok found) = Ok (f found)
built f (Err fault) = Err fault

-- The pipeline after a segment is added, or the first refusal. All other calls are told alike.
abbrev pub after_segment : Pipeline → List ℕ → List ℕ → List ℕ → ℕ → Result Pipeline BuildFault
after_segment p name from to capacity = built (λ ends. with_segment p name from to ends capacity) (checked_segment p name from to)

abbrev pub after_point : Pipeline → List ℕ → Kind → List ℕ → List ℕ → ℕ → Result Pipeline BuildFault
after_point p name kind place operator capacity = built (λ at. with_point p name kind at operator capacity) (checked_point p name place)

abbrev pub after_pool : Pipeline → List ℕ → List ℕ → List ℕ → Result Pipeline BuildFault
after_pool p name place operator = built (λ at. with_pool p name at operator) (checked_pool p name place)
