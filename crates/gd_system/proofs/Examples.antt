-- The definitions, computed on a small pipeline with a branch: segments AB from A to B, BC from B to C and DB from D to B, receipt points RA and RD at A and D, delivery points DC and DA at C and A, the pool HUB at B.
use Rattle.std.proofs.Common.{◌≡◌, ℕ, List, [], ◌∷◌, Some, None, Ok, Err, refl}
use Rattle.gd_rules.specs.Question.Element.{Segment as segment, Receipt as receipt, Delivery as delivery, Pool as pool}
use Rattle.gd_tree.specs.Walk.{walk}
use Rattle.gd_tree.specs.Grown.{route_of}
use Rattle.gd_system.specs.Pipeline.{Pipeline, elements_of, names_of, operators_of, element_number, number_of}
use Rattle.gd_system.specs.Building.{empty, after_segment, after_point, after_pool}
use Rattle.gd_system.specs.Route.{ends_of}
use Rattle.gd_system.specs.declared.BuildFault.TheVariants.{Duplicate, Unjoined, UnknownPlace}
use Rattle.gd_system.specs.declared.RouteFault.TheVariants.{UnknownEnd, WrongEnd, SameEnd, NoRoute}
use Rattle.gd_units.specs.declared.service.Kind.TheVariants.{Receipt, Delivery}

abbrev a : List ℕ
a = 65 ∷ []

abbrev b : List ℕ
b = 66 ∷ []

abbrev c : List ℕ
c = 67 ∷ []

abbrev d : List ℕ
d = 68 ∷ []

abbrev ab : List ℕ
ab = 65 ∷ 66 ∷ []

abbrev bc : List ℕ
bc = 66 ∷ 67 ∷ []

abbrev db : List ℕ
db = 68 ∷ 66 ∷ []

abbrev ra : List ℕ
ra = 82 ∷ 65 ∷ []

abbrev rd : List ℕ
rd = 82 ∷ 68 ∷ []

abbrev dc : List ℕ
dc = 68 ∷ 67 ∷ []

abbrev da : List ℕ
da = 68 ∷ 65 ∷ []

abbrev hub : List ℕ
hub = 72 ∷ 85 ∷ 66 ∷ []

abbrev op : List ℕ
op = 79 ∷ 80 ∷ []

abbrev lines : Pipeline
lines = record {
  places = a ∷ b ∷ c ∷ d ∷ [];
  segments = ab ∷ bc ∷ db ∷ [];
  tree = segment 0 1 100 ∷ segment 1 2 80 ∷ segment 3 1 40 ∷ [];
  points = [];
  pools = [];
}

abbrev small : Pipeline
small = record lines {
  points =
      (ra, record { kind = Receipt; place = record { 0 = 0 }; operator = op; capacity = 90 })
      ∷ (rd, record { kind = Receipt; place = record { 0 = 3 }; operator = op; capacity = 30 })
      ∷ (dc, record { kind = Delivery; place = record { 0 = 2 }; operator = op; capacity = 70 })
      ∷ (da, record { kind = Delivery; place = record { 0 = 0 }; operator = op; capacity = 60 })
      ∷ [];
  pools = (hub, record { place = record { 0 = 1 }; operator = op }) ∷ [];
}

first : after_segment empty ab a b 100 ≡ Ok (record empty { places = a ∷ b ∷ []; segments = ab ∷ []; tree = segment 0 1 100 ∷ [] })
first = refl

third : after_segment (record empty { places = a ∷ b ∷ c ∷ []; segments = ab ∷ bc ∷ []; tree = segment 0 1 100 ∷ segment 1 2 80 ∷ [] }) db d b 40 ≡ Ok lines
third = refl

last_pool : after_pool (record small { pools = [] }) hub b op ≡ Ok small
last_pool = refl

elements : elements_of small ≡ segment 0 1 100 ∷ segment 1 2 80 ∷ segment 3 1 40 ∷ receipt 0 90 ∷ receipt 3 30 ∷ delivery 2 70 ∷ delivery 0 60 ∷ pool 1 ∷ []
elements = refl

names : names_of small ≡ ab ∷ bc ∷ db ∷ ra ∷ rd ∷ dc ∷ da ∷ hub ∷ []
names = refl

operators : operators_of small ≡ None ∷ None ∷ None ∷ Some op ∷ Some op ∷ Some op ∷ Some op ∷ Some op ∷ []
operators = refl

number : element_number small dc ≡ Some 5
number = refl

place : number_of small.places d ≡ Some 3
place = refl

-- a segment's name, a point's and a pool's are there
duplicate_segment : after_segment small ab a (69 ∷ []) 1 ≡ Err Duplicate
duplicate_segment = refl

duplicate_point : after_point small ra Delivery b op 1 ≡ Err Duplicate
duplicate_point = refl

duplicate_pool : after_pool small hub a op ≡ Err Duplicate
duplicate_pool = refl

-- the first segment from a place to itself, later ones with no known end and with two
unjoined_first : after_segment empty ab a a 100 ≡ Err Unjoined
unjoined_first = refl

unjoined_apart : after_segment lines hub (69 ∷ []) (70 ∷ []) 100 ≡ Err Unjoined
unjoined_apart = refl

unjoined_round : after_segment lines hub c a 100 ≡ Err Unjoined
unjoined_round = refl

unknown_place : after_point lines ra Receipt (69 ∷ []) op 90 ≡ Err UnknownPlace
unknown_place = refl

-- from D over B to C, by the third segment and then the second
across : ends_of small rd dc ≡ Ok (record { origin = record { 0 = 4 }; dest = record { 0 = 5 }; origin_place = record { 0 = 3 }; dest_place = record { 0 = 2 } })
unfolding walk
across = refl

across_route : route_of (elements_of small) 3 3 2 ≡ 2 ∷ 1 ∷ []
unfolding walk
across_route = refl

-- from the pool to C
out_of_pool : ends_of small hub dc ≡ Ok (record { origin = record { 0 = 7 }; dest = record { 0 = 5 }; origin_place = record { 0 = 1 }; dest_place = record { 0 = 2 } })
unfolding walk
out_of_pool = refl

-- at one place no segment is passed
here : ends_of small ra da ≡ Ok (record { origin = record { 0 = 3 }; dest = record { 0 = 6 }; origin_place = record { 0 = 0 }; dest_place = record { 0 = 0 } })
unfolding walk
here = refl

unknown : ends_of small ra op ≡ Err UnknownEnd
unknown = refl

segment_no_end : ends_of small ab dc ≡ Err UnknownEnd
segment_no_end = refl

wrong_origin : ends_of small dc hub ≡ Err WrongEnd
wrong_origin = refl

wrong_dest : ends_of small hub ra ≡ Err WrongEnd
wrong_dest = refl

same : ends_of small hub hub ≡ Err SameEnd
same = refl

-- from D to A the first segment would be passed against its direction
against : ends_of small rd da ≡ Err NoRoute
unfolding walk
against = refl
