-- What stands under each number: segments first, then points, then pools.
use Rattle.std.proofs.Common.{◌≡◌, ℕ, zero, suc, ◌+◌, ◌-◌, ◌<◌, ◌≤◌, List, [], ◌∷◌, ◌++◌, length, map, get_or, Option, Some, None, refl, sym, ap, ◌∙◌, arith}
use Rattle.std.specs.Prelude.{slice_get}
use Rattle.std.specs.Option.{option_map}
use Rattle.std.specs.Map.{keys_of}
use Rattle.std.proofs.lemmas.List.{get_or-map, length-map, length-append}
use Rattle.std.proofs.lemmas.Option.{get_or_from_slice_get, slice_get-get_or}
use Rattle.gd_rules.specs.Question.{Element}
use Rattle.gd_rules.specs.Question.Element.{Pool as pool}
use Rattle.gd_system.specs.Pipeline.{Pipeline, elements_of, names_of, operators_of, point_element, same_name, number_of, element_number}
use Rattle.gd_system.specs.Row.{IsRow}
use Rattle.gd_system.specs.declared.part.Point.{Point}
use Rattle.gd_system.specs.declared.part.Pool.{Pool}
use Rattle.gd_system.specs.declared.system.Row.TheVariants as row
use Rattle.gd_system.proofs.Positions.{position_first, position_rest, slice_get_first, slice_get_made}

-- where nothing stands no list reaches
pub none_past : {X : Type 0} (xs : List X) (i : ℕ) → None ≡ slice_get xs i → length xs ≤ i
none_past [] i e = omega arith
none_past (x ∷ xs) zero e = cc
none_past (x ∷ xs) (suc i) e = let rest = none_past xs i e in omega arith

-- how many there are
pub length-elements : (p : Pipeline) → length (elements_of p) ≡ length p.tree + length p.points + length p.pools
length-elements p = simp (length-append, length-map)

pub length-names : (p : Pipeline) → length (names_of p) ≡ length p.segments + length p.points + length p.pools
length-names p = simp (length-append, length-map)

first_slot : {X : Type 0} (xs ys zs : List X) (i : ℕ) (d : X) → i < length xs → slice_get (xs ++ ys ++ zs) i ≡ Some (get_or xs i d)
first_slot xs ys zs i d h = slice_get_first (xs ++ ys) zs i (get_or xs i d) (slice_get_first xs ys i (get_or xs i d) (slice_get-get_or xs i d h))

second_slot : {X Y : Type 0} (xs : List X) (f : Y → X) (ys : List Y) (zs : List X) (n i : ℕ) (y : Y) → length xs ≡ n → n ≤ i → slice_get ys (i - n) ≡ Some y → slice_get (xs ++ map f ys ++ zs) i ≡ Some (f y)
second_slot xs f ys zs n i y e h at = slice_get_first (xs ++ map f ys) zs i (f y) (slice_get_made f xs ys n i y e h at)

third_slot : {X Y : Type 0} (xs ys : List X) (f : Y → X) (zs : List Y) (n i : ℕ) (y : Y) → length xs + length ys ≡ n → n ≤ i → slice_get zs (i - n) ≡ Some y → slice_get (xs ++ ys ++ map f zs) i ≡ Some (f y)
third_slot xs ys f zs n i y e h at = slice_get_made f (xs ++ ys) zs n i y (length-append xs ys ∙ e) h at

abbrev unmanned : Element → Option (List ℕ)
unmanned s = None

module _ (p : Pipeline) (named : length p.segments ≡ length p.tree) (e : ℕ) where
  pub segment_row : e < length p.tree → IsRow p e row.Segment
  segment_row h =
      let within : e < length p.segments = omega arith in
      let among : e < length (map unmanned p.tree) = rw (length-map p.tree unmanned) h in (
        h,
        get_or_from_slice_get (elements_of p) e (get_or p.tree e (pool 0)) (pool 0) (first_slot p.tree _ _ e (pool 0) h),
        first_slot p.segments _ _ e [] within ∙ sym (slice_get-get_or p.segments e [] within),
        get_or_from_slice_get (operators_of p) e None None (first_slot (map unmanned p.tree) _ _ e None among ∙ ap Some (get_or-map unmanned p.tree e (pool 0) None h)),
      )

  pub point_row : (name : List ℕ) (point : Point) → length p.tree ≤ e → slice_get p.points (e - length p.tree) ≡ Some (name, point) → IsRow p e (row.Point name point)
  point_row name point h at = (
    get_or_from_slice_get (elements_of p) e _ (pool 0) (second_slot p.tree (λ x. point_element x.1.kind x.1.place.0 x.1.capacity) p.points _ (length p.tree) e (name, point) refl h at),
    second_slot p.segments (λ x. x.0) p.points _ (length p.tree) e (name, point) named h at,
    get_or_from_slice_get (operators_of p) e _ None (second_slot (map unmanned p.tree) (λ x. Some x.1.operator) p.points _ (length p.tree) e (name, point) (length-map p.tree unmanned) h at),
  )

  pub pool_row : (name : List ℕ) (held : Pool) → length p.tree + length p.points ≤ e → slice_get p.pools (e - (length p.tree + length p.points)) ≡ Some (name, held) → IsRow p e (row.Pool name held)
  pool_row name held h at =
      let n : ℕ = length p.tree + length p.points in (
        get_or_from_slice_get (elements_of p) e _ (pool 0) (third_slot p.tree (map (λ x. point_element x.1.kind x.1.place.0 x.1.capacity) p.points) (λ x. pool x.1.place.0) p.pools n e (name, held) (ap (λ k. length p.tree + k) (length-map p.points (λ x. point_element x.1.kind x.1.place.0 x.1.capacity))) h at),
        third_slot p.segments (map (λ x. x.0) p.points) (λ x. x.0) p.pools n e (name, held) (simp length-map (omega arith)) h at,
        get_or_from_slice_get (operators_of p) e _ None (third_slot (map unmanned p.tree) (map (λ x. Some x.1.operator) p.points) (λ x. Some x.1.operator) p.pools n e (name, held) (simp length-map) h at),
      )

-- the number of a name: that of the segment, of the point or of the pool
module _ (p : Pipeline) (named : length p.segments ≡ length p.tree) (name : List ℕ) where
  pub segment_number : (i : ℕ) → number_of p.segments name ≡ Some i → element_number p name ≡ Some i
  segment_number i e = position_first (same_name name) (p.segments ++ keys_of p.points) (keys_of p.pools) i (position_first (same_name name) p.segments (keys_of p.points) i e)

  pub point_number : (i : ℕ) → number_of p.segments name ≡ None → number_of (keys_of p.points) name ≡ Some i → element_number p name ≡ Some (length p.tree + i)
  point_number i e f =
      position_first (same_name name) (p.segments ++ keys_of p.points) (keys_of p.pools) (length p.tree + i)
      (position_rest (same_name name) p.segments (keys_of p.points) e ∙ ap (option_map (λ k. length p.segments + k)) f ∙ ap (λ n. Some (n + i)) named)

  pub pool_number : number_of p.segments name ≡ None → number_of (keys_of p.points) name ≡ None → element_number p name ≡ option_map (λ k. length p.tree + length p.points + k) (number_of (keys_of p.pools) name)
  pool_number e f =
      let none : number_of (p.segments ++ keys_of p.points) name ≡ None = position_rest (same_name name) p.segments (keys_of p.points) e ∙ ap (option_map (λ k. length p.segments + k)) f in
      let long : length (p.segments ++ keys_of p.points) ≡ length p.tree + length p.points = length-append p.segments (keys_of p.points) ∙ simp length-map (omega arith) in
      position_rest (same_name name) (p.segments ++ keys_of p.points) (keys_of p.pools) none ∙ ap (λ n. option_map (λ k. n + k) (number_of (keys_of p.pools) name)) long
