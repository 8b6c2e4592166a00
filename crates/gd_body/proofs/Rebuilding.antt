-- The parts of a pipeline, added in the order of their numbers, make it anew.
use Rattle.std.proofs.Common.{◌≡◌, ℕ, zero, suc, ◌+◌, ◌-◌, ◌<◌, ◌≤◌, ◌==◌, nat_le, Bool, false, List, [], ◌∷◌, ◌++◌, length, get_or, take, map, Option, Some, None, Ok, refl, sym, ap, ap₂, subst, ◌∙◌, if◌then◌else◌, arith, inl, inr, append-nil}
use Rattle.std.specs.Prelude.{◌⊎◌, slice_get, unwrap_or}
use Rattle.std.proofs.lemmas.Bool.Decides.{nat_tests}
use Rattle.std.proofs.lemmas.List.{take-append-le, take_more, take_all, length-take-le, length-map, length-append, take-map}
use Rattle.std.proofs.lemmas.Option.{unwrap_or-slice_get, get_or_from_slice_get}
use Rattle.gd_rules.specs.Limits.{most_segments, most_points, most_pools}
use Rattle.gd_rules.specs.Question as rules
use Rattle.gd_rules.specs.Question.Element.{Segment as segment, Receipt as receipt, Delivery as delivery, Pool as pool}
use Rattle.gd_rules.specs.Question.{place_of}
use Rattle.gd_tree.specs.Grown.{Joins}
use Rattle.gd_system.specs.Pipeline.{Pipeline, names_of, number_of, same_name}
use Rattle.gd_system.specs.Building.{known, entered, joined, with_segment, with_point, with_pool, after_segment, after_point, after_pool}
use Rattle.gd_units.specs.declared.service.Kind.{Kind}
use Rattle.gd_system.specs.Join.{join_of}
use Rattle.gd_system.specs.Route.{element_at}
use Rattle.gd_system.specs.declared.part.Point.{Point}
use Rattle.gd_system.specs.declared.part.Pool.{Pool}
use Rattle.gd_system.proofs.Slots as slots
use Rattle.gd_body.specs.Publishable.{AreApart, IsBuiltPipeline}
use Rattle.gd_body.specs.Rows.{place_name, element_name}
use Rattle.gd_body.proofs.NamesApart.{number_found, number_new, name_known, name_new, differ}

-- how many places the first segments join
abbrev joining : ℕ → ℕ
joining k = if k == 0 then 0 else k + 1

-- the pipeline of the first segments
abbrev pub of_segments : Pipeline → ℕ → Pipeline
of_segments p k = record { places = take (joining k) p.places; segments = take k p.segments; tree = take k p.tree; points = []; pools = [] }

-- with all segments, and the first points
abbrev pub of_points : Pipeline → ℕ → Pipeline
of_points p k = record p { points = take k p.points; pools = [] }

-- with all segments and points, and the first pools
abbrev pub of_pools : Pipeline → ℕ → Pipeline
of_pools p k = record p { pools = take k p.pools }

-- a segment joins a new place to one that is there
abbrev IsJoin : ℕ → ℕ → ℕ → Type 0
IsJoin k from to = ((from ≡ suc k) × (to ≤ k)) ⊎ ((to ≡ suc k) × (from ≤ k))

module _ (places : List (List ℕ)) (apart : AreApart places) where
  abbrev named : ℕ → List ℕ
  named k = get_or places k []

  joined_next : (k from to : ℕ) (same : Bool) → 1 ≤ k → k + 1 < length places → IsJoin k from to
      → join_of k same (number_of (take (k + 1) places) (named from)) (number_of (take (k + 1) places) (named to)) ≡ Some (from, to)
  joined_next k from to same some low (inl j) =
      let later' : (k == 0) ≡ false = grind (arith, nat_tests) in
      let is : from ≡ k + 1 = omega (arith, j) in
      let new : number_of (take (k + 1) places) (named from) ≡ None = ap (λ n. number_of (take (k + 1) places) (named n)) is ∙ number_new places apart (k + 1) low in
      let found = number_found places apart (k + 1) to (omega (arith, j)) (omega arith) in
      rw (later', new, found) (ap (λ n. Some (n, to)) (sym is))
  joined_next k from to same some low (inr j) =
      let later' : (k == 0) ≡ false = grind (arith, nat_tests) in
      let is : to ≡ k + 1 = omega (arith, j) in
      let new : number_of (take (k + 1) places) (named to) ≡ None = ap (λ n. number_of (take (k + 1) places) (named n)) is ∙ number_new places apart (k + 1) low in
      let found = number_found places apart (k + 1) from (omega (arith, j)) (omega arith) in
      rw (later', found, new) (ap (λ n. Some (from, n)) (sym is))

  more_places : (k : ℕ) → k < length places → take k places ++ named k ∷ [] ≡ take (k + 1) places
  more_places k low = sym (take_more places k [] low)

  new_entered : (k place : ℕ) → k < length places → place ≡ k → entered (take k places) (named place) ≡ take (k + 1) places
  new_entered k place low is =
      ap (λ n. entered (take k places) (named n)) is
      ∙ ap (λ v. if v then take k places else take k places ++ named k ∷ []) (name_new places apart k low)
      ∙ more_places k low

  known_entered : (k place : ℕ) → k ≤ length places → place < k → entered (take k places) (named place) ≡ take k places
  known_entered k place within low = ap (λ v. if v then take k places else take k places ++ named place ∷ []) (name_known places apart k place low within)

  entered_next : (k from to : ℕ) → k + 1 < length places → IsJoin k from to → entered (entered (take (k + 1) places) (named from)) (named to) ≡ take (k + 1 + 1) places
  entered_next k from to low (inl j) =
      ap (λ l. entered l (named to)) (new_entered (k + 1) from low (omega (arith, j))) ∙ known_entered (k + 1 + 1) to (omega arith) (omega (arith, j))
  entered_next k from to low (inr j) =
      ap (λ l. entered l (named to)) (known_entered (k + 1) from (omega arith) (omega (arith, j))) ∙ new_entered (k + 1) to low (omega (arith, j))

  first_joined : (from to : ℕ) (f t : Option ℕ) → 1 < length places → from ≡ 0 → to ≡ 1 → join_of 0 (same_name (named from) (named to)) f t ≡ Some (from, to)
  first_joined from to f t low a b =
      let other : same_name (named from) (named to) ≡ false = differ (named from) (named to) (λ (e : named from ≡ named to).
      apart 0 1 [] (omega arith) low (ap named (sym a) ∙ e ∙ ap named b)) in
      rw other (ap₂ (λ (x y : ℕ). Some (x, y)) (sym a) (sym b))

  first_entered : (from to : ℕ) → 1 < length places → from ≡ 0 → to ≡ 1 → entered (entered [] (named from)) (named to) ≡ take 2 places
  first_entered from to low a b =
      ap (λ l. entered l (named to)) (new_entered 0 from (omega arith) a) ∙ new_entered 1 to low b

-- the first list, and some of the second
take_over : {X : Type 0} (xs ys : List X) (n k : ℕ) → n ≡ length xs + k → take n (xs ++ ys) ≡ xs ++ take k ys
take_over [] ys n k is = let same : n ≡ k = omega (arith, is) in ap (λ i. take i ys) same
take_over (x ∷ xs) ys zero k is = absurd (omega (arith, is))
take_over (x ∷ xs) ys (suc n) k is = ap (λ l. x ∷ l) (take_over xs ys n k (omega (arith, is)))

-- a segment that is not refused
segment_added : (p q : Pipeline) (name from to : List ℕ) (capacity : ℕ) (ends : ℕ × ℕ) → known (names_of p) name ≡ false → nat_le most_segments (length p.tree) ≡ false → joined p from to ≡ Some ends
    → with_segment p name from to ends capacity ≡ q → after_segment p name from to capacity ≡ Ok q
segment_added p q name from to capacity ends new few join is = rw (new, join, few) (ap (λ (x : Pipeline). Ok x) is)

point_added : (p q : Pipeline) (name : List ℕ) (kind : Kind) (at : List ℕ) (operator : List ℕ) (capacity place : ℕ) → known (names_of p) name ≡ false → nat_le most_points (length p.points) ≡ false → number_of p.places at ≡ Some place
    → with_point p name kind place operator capacity ≡ q → after_point p name kind at operator capacity ≡ Ok q
point_added p q name kind at operator capacity place new few found is = rw (new, found, few) (ap (λ (x : Pipeline). Ok x) is)

pool_added : (p q : Pipeline) (name at operator : List ℕ) (place : ℕ) → known (names_of p) name ≡ false → nat_le most_pools (length p.pools) ≡ false → number_of p.places at ≡ Some place
    → with_pool p name place operator ≡ q → after_pool p name at operator ≡ Ok q
pool_added p q name at operator place new few found is = rw (new, found, few) (ap (λ (x : Pipeline). Ok x) is)

module _ (p : Pipeline) (m : IsBuiltPipeline p) where
  place_is : (k : ℕ) → place_name p k ≡ get_or p.places k []
  place_is k = unwrap_or-slice_get p.places k []

  element_is : (k : ℕ) → element_name p k ≡ get_or (names_of p) k []
  element_is k = unwrap_or-slice_get (names_of p) k []

  long_names : length (names_of p) ≡ length p.tree + length p.points + length p.pools
  long_names = omega (arith, slots.length-names p, m.known.named)

  -- no name of the first parts is that of the next
  new_name : (k : ℕ) (names : List (List ℕ)) → k < length (names_of p) → names ≡ take k (names_of p) → known names (element_name p k) ≡ false
  new_name k names low is = ap₂ known is (element_is k) ∙ name_new (names_of p) m.names_apart k low

  few_segments : (k : ℕ) → k < length p.tree → nat_le most_segments (length (take k p.tree)) ≡ false
  few_segments k low =
      let long = length-take-le k p.tree (omega arith) in
      let few = m.known.few_segments in
      grind (arith, nat_tests)

  segment_names : (k : ℕ) → k ≤ length p.tree → (take k p.segments ++ []) ++ [] ≡ take k (names_of p)
  segment_names k low =
      let within : k ≤ length p.segments = omega (arith, m.known.named) in
      append-nil (take k p.segments ++ []) ∙ append-nil (take k p.segments)
      ∙ sym (take-append-le k (p.segments ++ map (λ e. e.0) p.points) (map (λ e. e.0) p.pools) (omega (arith, within, length-append p.segments (map (λ e. e.0) p.points)))
      ∙ take-append-le k p.segments (map (λ e. e.0) p.points) within)

  -- the first segments, and the places that they join
  abbrev fronted : List (List ℕ) → ℕ → Pipeline
  fronted places k = record { places = places; segments = take k p.segments; tree = take k p.tree; points = []; pools = [] }

  abbrev made_of : List (List ℕ) → List (List ℕ) → List rules.Element → Pipeline
  made_of places segments tree = record { places = places; segments = segments; tree = tree; points = []; pools = [] }

  segment_name : (k : ℕ) → k < length p.tree → element_name p k ≡ get_or p.segments k []
  segment_name k low = ap (λ (o : Option (List ℕ)). unwrap_or o []) (slots.segment_row p m.known.named k low).2 ∙ unwrap_or-slice_get p.segments k []

  fronted_next : (places next : List (List ℕ)) (k from to capacity : ℕ) → k < length p.tree → element_at p k ≡ segment from to capacity
      → join_of k (same_name (place_name p from) (place_name p to)) (number_of places (place_name p from)) (number_of places (place_name p to)) ≡ Some (from, to)
      → entered (entered places (place_name p from)) (place_name p to) ≡ next
      → after_segment (fronted places k) (element_name p k) (place_name p from) (place_name p to) capacity ≡ Ok (fronted next (k + 1))
  fronted_next places next k from to capacity low is join enter =
      let long : length (take k p.tree) ≡ k = length-take-le k p.tree (omega arith) in
      let within : k < length p.segments = omega (arith, m.known.named) in
      let segments : take k p.segments ++ element_name p k ∷ [] ≡ take (k + 1) p.segments = ap (λ n. take k p.segments ++ n ∷ []) (segment_name k low) ∙ sym (take_more p.segments k [] within) in
      let tree : take k p.tree ++ segment from to capacity ∷ [] ≡ take (k + 1) p.tree =
      ap (λ x. take k p.tree ++ x ∷ []) (sym is ∙ (slots.segment_row p m.known.named k low).1) ∙ sym (take_more p.tree k (pool 0) low) in
      segment_added (fronted places k) (fronted next (k + 1)) (element_name p k) (place_name p from) (place_name p to) capacity (from, to)
      (new_name k ((take k p.segments ++ []) ++ []) (omega (arith, long_names)) (segment_names k (omega arith)))
      (few_segments k low)
      (ap (λ n. join_of n (same_name (place_name p from) (place_name p to)) (number_of places (place_name p from)) (number_of places (place_name p to))) long ∙ join)
      (ap (λ l. made_of l (take k p.segments ++ element_name p k ∷ []) (take k p.tree ++ segment from to capacity ∷ [])) enter
      ∙ ap (λ l. made_of next l (take k p.tree ++ segment from to capacity ∷ [])) segments
      ∙ ap (made_of next (take (k + 1) p.segments)) tree)

  joins_at : (k from to capacity : ℕ) → k < length p.tree → element_at p k ≡ segment from to capacity → IsJoin k from to
  joins_at k from to capacity low is = subst (Joins k) is (m.known.grown.joins k low)

  first_ends : (from to capacity : ℕ) → element_at p 0 ≡ segment from to capacity → (from ≡ 0) × (to ≡ 1)
  first_ends from to capacity is =
      let from0 : from ≡ 0 = sym (ap place_of is) ∙ m.begins in
      elim (joins_at 0 from to capacity m.known.some is) [
        | inl j ↦ absurd (omega (arith, j, from0))
        | inr j ↦ (from0, j.0)
      ]

  joining_is : (k : ℕ) → 1 ≤ k → joining k ≡ k + 1
  joining_is k some = let later' : (k == 0) ≡ false = grind (arith, nat_tests) in rw later' refl

  pub segment_next : (k from to capacity : ℕ) → k < length p.tree → element_at p k ≡ segment from to capacity
      → after_segment (of_segments p k) (element_name p k) (place_name p from) (place_name p to) capacity ≡ Ok (of_segments p (k + 1))
  segment_next zero from to capacity low is =
      let ends = first_ends from to capacity is in
      let two : 1 < length p.places = omega (arith, m.known.placed) in
      fronted_next [] (take 2 p.places) 0 from to capacity low is
      (ap₂ (λ (a b : List ℕ). join_of 0 (same_name a b) (number_of [] a) (number_of [] b)) (place_is from) (place_is to) ∙ first_joined p.places m.places_apart from to (number_of [] (get_or p.places from [])) (number_of [] (get_or p.places to [])) two ends.0 ends.1)
      (ap₂ (λ (a b : List ℕ). entered (entered [] a) b) (place_is from) (place_is to) ∙ first_entered p.places m.places_apart from to two ends.0 ends.1)
  segment_next (suc j) from to capacity low is =
      let k : ℕ = suc j in
      let some : 1 ≤ suc j = omega arith in
      let more : suc j + 1 < length p.places = omega (arith, m.known.placed) in
      let join = joins_at (suc j) from to capacity low is in
      let here : of_segments p (suc j) ≡ fronted (take (suc j + 1) p.places) (suc j) = ap (λ n. fronted (take n p.places) (suc j)) (joining_is (suc j) some) in
      let next : fronted (take (suc j + 1 + 1) p.places) (suc j + 1) ≡ of_segments p (suc j + 1) = ap (λ n. fronted (take n p.places) (suc j + 1)) (sym (joining_is (suc j + 1) (omega arith))) in
      ap (λ (q : Pipeline). after_segment q (element_name p (suc j)) (place_name p from) (place_name p to) capacity) here
      ∙ fronted_next (take (suc j + 1) p.places) (take (suc j + 1 + 1) p.places) (suc j) from to capacity low is
      (ap₂ (λ (a b : List ℕ). join_of (suc j) (same_name a b) (number_of (take (suc j + 1) p.places) a) (number_of (take (suc j + 1) p.places) b)) (place_is from) (place_is to)
      ∙ joined_next p.places m.places_apart (suc j) from to (same_name (get_or p.places from []) (get_or p.places to [])) some more join)
      (ap₂ (λ (a b : List ℕ). entered (entered (take (suc j + 1) p.places) a) b) (place_is from) (place_is to) ∙ entered_next p.places m.places_apart (suc j) from to more join)
      ∙ ap (λ (q : Pipeline). Ok q) next

  -- the points
  point_names : (k : ℕ) → k ≤ length p.points → (p.segments ++ map (λ e. e.0) (take k p.points)) ++ [] ≡ take (length p.tree + k) (names_of p)
  point_names k low =
      append-nil (p.segments ++ map (λ e. e.0) (take k p.points))
      ∙ ap (λ l. p.segments ++ l) (sym (take-map (λ e. e.0) k p.points))
      ∙ sym (take-append-le (length p.tree + k) (p.segments ++ map (λ e. e.0) p.points) (map (λ e. e.0) p.pools) (omega (arith, m.known.named, length-append p.segments (map (λ e. e.0) p.points), length-map p.points (λ e. e.0)))
      ∙ take_over p.segments (map (λ e. e.0) p.points) (length p.tree + k) k (omega (arith, m.known.named)))

  place_found : (place : ℕ) → place < length p.places → number_of p.places (place_name p place) ≡ Some place
  place_found place low =
      ap (number_of p.places) (place_is place)
      ∙ ap (λ l. number_of l (get_or p.places place [])) (sym (take_all (length p.places) p.places (omega arith)))
      ∙ number_found p.places m.places_apart (length p.places) place low (omega arith)

  pub point_next : (k : ℕ) (name : List ℕ) (point : Point) → k < length p.points → slice_get p.points k ≡ Some (name, point) → point.place.0 < length p.places
      → after_point (of_points p k) (element_name p (length p.tree + k)) point.kind (place_name p point.place.0) point.operator point.capacity ≡ Ok (of_points p (k + 1))
  point_next k name point low at hung =
      let long : length (take k p.points) ≡ k = length-take-le k p.points (omega arith) in
      let few = m.known.few_points in
      let room : nat_le most_points (length (take k p.points)) ≡ false = grind (arith, nat_tests) in
      let back : length p.tree + k - length p.tree ≡ k = omega arith in
      let r = slots.point_row p m.known.named (length p.tree + k) name point (omega arith) (ap (slice_get p.points) back ∙ at) in
      let named : element_name p (length p.tree + k) ≡ name = ap (λ (o : Option (List ℕ)). unwrap_or o []) r.1 in
      let entry : get_or p.points k (name, point) ≡ (name, point) = get_or_from_slice_get p.points k (name, point) (name, point) at in
      point_added (of_points p k) (of_points p (k + 1)) (element_name p (length p.tree + k)) point.kind (place_name p point.place.0) point.operator point.capacity point.place.0
      (new_name (length p.tree + k) ((p.segments ++ map (λ e. e.0) (take k p.points)) ++ []) (omega (arith, long_names)) (point_names k (omega arith)))
      room (place_found point.place.0 hung)
      (ap (λ (l : List (List ℕ × Point)). record p { points = l; pools = [] }) (
      ap (λ (n : List ℕ). take k p.points ++ (n, point) ∷ []) named
      ∙ ap (λ (e : List ℕ × Point). take k p.points ++ e ∷ []) (sym entry) ∙ sym (take_more p.points k (name, point) low)))

  -- the pools
  pool_names : (k : ℕ) → k ≤ length p.pools → (p.segments ++ map (λ e. e.0) p.points) ++ map (λ e. e.0) (take k p.pools) ≡ take (length p.tree + length p.points + k) (names_of p)
  pool_names k low =
      ap (λ l. (p.segments ++ map (λ e. e.0) p.points) ++ l) (sym (take-map (λ e. e.0) k p.pools))
      ∙ sym (take_over (p.segments ++ map (λ e. e.0) p.points) (map (λ e. e.0) p.pools) (length p.tree + length p.points + k) k
      (omega (arith, m.known.named, length-append p.segments (map (λ e. e.0) p.points), length-map p.points (λ e. e.0))))

  pub pool_next : (k : ℕ) (name : List ℕ) (held : Pool) → k < length p.pools → slice_get p.pools k ≡ Some (name, held) → held.place.0 < length p.places
      → after_pool (of_pools p k) (element_name p (length p.tree + length p.points + k)) (place_name p held.place.0) held.operator ≡ Ok (of_pools p (k + 1))
  pool_next k name held low at hung =
      let long : length (take k p.pools) ≡ k = length-take-le k p.pools (omega arith) in
      let few = m.known.few_pools in
      let room : nat_le most_pools (length (take k p.pools)) ≡ false = grind (arith, nat_tests) in
      let back : length p.tree + length p.points + k - (length p.tree + length p.points) ≡ k = omega arith in
      let r = slots.pool_row p m.known.named (length p.tree + length p.points + k) name held (omega arith) (ap (slice_get p.pools) back ∙ at) in
      let named : element_name p (length p.tree + length p.points + k) ≡ name = ap (λ (o : Option (List ℕ)). unwrap_or o []) r.1 in
      let entry : get_or p.pools k (name, held) ≡ (name, held) = get_or_from_slice_get p.pools k (name, held) (name, held) at in
      pool_added (of_pools p k) (of_pools p (k + 1)) (element_name p (length p.tree + length p.points + k)) (place_name p held.place.0) held.operator held.place.0
      (new_name (length p.tree + length p.points + k) ((p.segments ++ map (λ e. e.0) p.points) ++ map (λ e. e.0) (take k p.pools)) (omega (arith, long_names)) (pool_names k (omega arith)))
      room (place_found held.place.0 hung)
      (ap (λ (l : List (List ℕ × Pool)). record p { pools = l }) (
      ap (λ (n : List ℕ). take k p.pools ++ (n, held) ∷ []) named
      ∙ ap (λ (e : List ℕ × Pool). take k p.pools ++ e ∷ []) (sym entry) ∙ sym (take_more p.pools k (name, held) low)))

  -- where one kind of parts is all there
  pub all_segments : of_segments p (length p.tree) ≡ of_points p 0
  all_segments =
      ap (λ n. fronted (take n p.places) (length p.tree)) (joining_is (length p.tree) m.known.some)
      ∙ ap (λ l. fronted l (length p.tree)) (take_all (length p.tree + 1) p.places (omega (arith, m.known.placed)))
      ∙ ap (λ l. made_of p.places l (take (length p.tree) p.tree)) (take_all (length p.tree) p.segments (omega (arith, m.known.named)))
      ∙ ap (made_of p.places p.segments) (take_all (length p.tree) p.tree (omega arith))

  pub all_points : of_points p (length p.points) ≡ of_pools p 0
  all_points = ap (λ (l : List (List ℕ × Point)). record p { points = l; pools = [] }) (take_all (length p.points) p.points (omega arith))

  pub all_pools : of_pools p (length p.pools) ≡ p
  all_pools = ap (λ (l : List (List ℕ × Pool)). record p { pools = l }) (take_all (length p.pools) p.pools (omega arith))
