-- The ends that two names tell, and the route between them.
use Rattle.std.proofs.Common.{◌≡◌, ◌≢◌, ℕ, ◌<◌, Bool, true, false, List, [], length, get_or, Option, Some, None, Result, Ok, Err, refl, sym, ap, subst, ◌∙◌, arith}
use Rattle.std.specs.Prelude.{if◌then◌else◌, ◌==◌, ◌||◌, IfOk}
use Rattle.std.proofs.lemmas.Bool.{eqb-false, ne_eqb}
use Rattle.std.proofs.lemmas.List.Quantifiers.{position-Some}
use Rattle.gd_rules.specs.Question.{Element, place_of}
use Rattle.gd_rules.specs.Question.Element.{Segment, Receipt, Delivery, Pool}
use Rattle.gd_rules.specs.Tree.{CanSend, CanTake, IsRoute}
use Rattle.gd_tree.specs.Grown.{IsGrown, IsNoSegment, Joins, has_route, route_of}
use Rattle.gd_tree.proofs.Agreement.{route_with}
use Rattle.std.proofs.lemmas.List.{get_or_append_left, get_or_past}
use Rattle.gd_tree.proofs.Directions.{has_route_with, routes}
use Rattle.gd_system.specs.Pipeline.{Pipeline, elements_of, names_of, same_name, element_number}
use Rattle.gd_system.specs.Parts.{element_of}
use Rattle.gd_system.specs.Route.{element_at, is_segment, is_receipt, is_delivery, ends_at, ends_between, ends_found, ends_of}
use Rattle.gd_system.specs.Ends.{AreEnds, AreParted, IsTheRoute}
use Rattle.gd_system.specs.Known.{IsSystem}
use Rattle.gd_system.specs.declared.part.Element.{Element as Number}
use Rattle.gd_system.specs.declared.part.PlaceId.{PlaceId}
use Rattle.gd_system.specs.declared.part.Part.{Part}
use Rattle.gd_system.specs.declared.part.Ends.{Ends}
use Rattle.gd_system.specs.declared.RouteFault.{RouteFault}
use Rattle.gd_system.specs.declared.RouteFault.TheVariants.{UnknownEnd, WrongEnd, SameEnd, NoRoute}
use Rattle.gd_system.proofs.Making.{hangers, elements_are, no_segments}
use Rattle.gd_system.proofs.Slots.{length-elements, length-names}

-- points and pools change no route
pub has_route-elements : (p : Pipeline) (a b : ℕ) → has_route (elements_of p) (length p.tree) a b ≡ has_route p.tree (length p.tree) a b
has_route-elements p a b = ap (λ l. has_route l (length p.tree) a b) (elements_are p) ∙ has_route_with p.tree (hangers p) (no_segments p) a b

-- the ends of two numbers, after the first three tests
pub ends_passed : (p : Pipeline) (i j : ℕ) (r : Bool) → is_segment (element_at p i) ≡ false → is_segment (element_at p j) ≡ false → is_delivery (element_at p i) ≡ false → is_receipt (element_at p j) ≡ false → i ≢ j
    → has_route p.tree (length p.tree) (place_of (element_at p i)) (place_of (element_at p j)) ≡ r → ends_between p i j ≡ (if r then Ok (ends_at p i j) else Err NoRoute)
ends_passed p i j r a b d e n h =
    let route = has_route-elements p (place_of (element_at p i)) (place_of (element_at p j)) ∙ h in
    ap (λ (v : Bool). if v || is_segment (element_at p j) then Err UnknownEnd else rest) a
    ∙ ap (λ (v : Bool). if v then Err UnknownEnd else rest) b
    ∙ ap (λ (v : Bool). if v || is_receipt (element_at p j) then Err WrongEnd else last) d
    ∙ ap (λ (v : Bool). if v then Err WrongEnd else last) e
    ∙ ap (λ (v : Bool). if v then Err SameEnd else end) (ne_eqb i j n)
    ∙ ap (λ (v : Bool). if v then Ok (ends_at p i j) else Err NoRoute) route
  where
    end : Result Ends RouteFault
    end = if has_route (elements_of p) (length p.tree) (place_of (element_at p i)) (place_of (element_at p j)) then Ok (ends_at p i j) else Err NoRoute

    last : Result Ends RouteFault
    last = if i == j then Err SameEnd else end

    rest : Result Ends RouteFault
    rest = if is_delivery (element_at p i) || is_receipt (element_at p j) then Err WrongEnd else last

-- the same, from what the code reads
pub ends_tested : (inside p : Pipeline) (i j : ℕ) (from to : Part) (a b : ℕ) (r : Bool) → inside ≡ p → element_of from ≡ element_at p i → element_of to ≡ element_at p j
    → is_segment (element_of from) ≡ false → is_segment (element_of to) ≡ false → is_delivery (element_of from) ≡ false → is_receipt (element_of to) ≡ false → i ≢ j
    → a ≡ place_of (element_of from) → b ≡ place_of (element_of to) → r ≡ has_route inside.tree (length inside.tree) a b → ends_between p i j ≡ (if r then Ok (ends_at p i j) else Err NoRoute)
ends_tested inside p i j from to a b r same f t s u d e n x y h =
    ends_passed p i j r (sym (ap is_segment f) ∙ s) (sym (ap is_segment t) ∙ u) (sym (ap is_delivery f) ∙ d) (sym (ap is_receipt t) ∙ e) n (
    ap (λ k. has_route p.tree (length p.tree) k (place_of (element_at p j))) (sym (x ∙ ap place_of f))
    ∙ ap (has_route p.tree (length p.tree) a) (sym (y ∙ ap place_of t))
    ∙ sym (h ∙ ap (λ (q : Pipeline). has_route q.tree (length q.tree) a b) same)
    )

pub ends_are : (p : Pipeline) (origin dest : Number) (a b : PlaceId) → a.0 ≡ place_of (element_at p origin.0) → b.0 ≡ place_of (element_at p dest.0)
    → record { origin = origin; dest = dest; origin_place = a; dest_place = b } ≡ ends_at p origin.0 dest.0
ends_are p origin dest a b e f =
    ap (λ (x : ℕ). record { origin = origin; dest = dest; origin_place = record { 0 = x }; dest_place = b }) e
    ∙ ap (λ (y : ℕ). record { origin = origin; dest = dest; origin_place = record { 0 = place_of (element_at p origin.0) }; dest_place = record { 0 = y } }) f

-- what each answer of the four tests means
abbrev answer : Ends → Bool → Bool → Bool → Bool → Result Ends RouteFault
answer e segment wrong same route = if segment then Err UnknownEnd else if wrong then Err WrongEnd else if same then Err SameEnd else if route then Ok e else Err NoRoute

record Passed (segment wrong same : Bool) : Type 0 where
  no_segment : segment ≡ false
  right : wrong ≡ false
  apart : same ≡ false

answered : (e f : Ends) (segment wrong same route : Bool) → answer e segment wrong same route ≡ Ok f → Passed segment wrong same × (route ≡ true) × (e ≡ f)
answered e f true wrong same route h = cc
answered e f false true same route h = cc
answered e f false false true route h = cc
answered e f false false false false h = cc
answered e f false false false true h = (record { no_segment = refl; right = refl; apart = refl }, refl, cc)

barred : (e : Ends) (segment wrong same route : Bool) → answer e segment wrong same route ≡ Err NoRoute → Passed segment wrong same × (route ≡ false)
barred e true wrong same route h = cc
barred e false true same route h = cc
barred e false false true route h = cc
barred e false false false true h = cc
barred e false false false false h = (record { no_segment = refl; right = refl; apart = refl }, refl)

neither : (a b : Bool) → (a || b) ≡ false → (a ≡ false) × (b ≡ false)
neither false false h = (refl, refl)
neither false true h = cc
neither true b h = cc

sends : (x : Element) → is_segment x ≡ false → is_delivery x ≡ false → CanSend x
sends (Segment from to capacity) h k = absurd (let e : true ≡ false = h in cc)
sends (Receipt place capacity) h k = tt
sends (Delivery place capacity) h k = absurd (let e : true ≡ false = k in cc)
sends (Pool place) h k = tt

takes : (x : Element) → is_segment x ≡ false → is_receipt x ≡ false → CanTake x
takes (Segment from to capacity) h k = absurd (let e : true ≡ false = h in cc)
takes (Receipt place capacity) h k = absurd (let e : true ≡ false = k in cc)
takes (Delivery place capacity) h k = tt
takes (Pool place) h k = tt

module _ (p : Pipeline) (s : IsSystem p) where
  known_number : (name : List ℕ) (i : ℕ) → element_number p name ≡ Some i → i < length (elements_of p)
  known_number name i e =
      let within = (position-Some (same_name name) (names_of p) i [] e).0 in
      omega (arith, within, length-elements p, length-names p, s.named)

  -- ends that are told are ends
  between_are : (i j : ℕ) (e : Ends) → i < length (elements_of p) → j < length (elements_of p) → ends_between p i j ≡ Ok e → AreEnds p e
  between_are i j e h k told =
      let a = answered (ends_at p i j) e (is_segment (element_at p i) || is_segment (element_at p j)) (is_delivery (element_at p i) || is_receipt (element_at p j)) (i == j)
      (has_route (elements_of p) (length p.tree) (place_of (element_at p i)) (place_of (element_at p j))) told in
      let n = neither (is_segment (element_at p i)) (is_segment (element_at p j)) a.0.no_segment in
      let w = neither (is_delivery (element_at p i)) (is_receipt (element_at p j)) a.0.right in
      subst (AreEnds p) a.2 (record {
        origin_known = h;
        dest_known = k;
        origin_placed = s.hung i h;
        dest_placed = s.hung j k;
        origin_hangs = refl;
        dest_hangs = refl;
        sends = sends (element_at p i) n.0 w.0;
        takes = takes (element_at p j) n.1 w.1;
        apart = eqb-false i j a.0.apart;
        routed = a.1;
      })

  between_parted : (i j : ℕ) → i < length (elements_of p) → j < length (elements_of p) → ends_between p i j ≡ Err NoRoute
      → CanSend (element_at p i) × CanTake (element_at p j) × (i ≢ j) × ((route : List ℕ) → IsRoute (elements_of p) (place_of (element_at p i)) route (place_of (element_at p j)) → ⊥)
  between_parted i j h k told =
      let a = barred (ends_at p i j) (is_segment (element_at p i) || is_segment (element_at p j)) (is_delivery (element_at p i) || is_receipt (element_at p j)) (i == j)
      (has_route (elements_of p) (length p.tree) (place_of (element_at p i)) (place_of (element_at p j))) told in
      let n = neither (is_segment (element_at p i)) (is_segment (element_at p j)) a.0.no_segment in
      let w = neither (is_delivery (element_at p i)) (is_receipt (element_at p j)) a.0.right in (
        sends (element_at p i) n.0 w.0,
        takes (element_at p j) n.1 w.1,
        eqb-false i j a.0.apart,
        λ route r.
            let yes = ((routes (elements_of p) (length p.tree) (place_of (element_at p i)) (place_of (element_at p j)) s.grown (s.hung i h) (s.hung j k)).1 route r).0 in
            let no : true ≡ false = sym yes ∙ a.1 in
            cc,
      )

  pub told_are : (origin dest : List ℕ) (e : Ends) → ends_of p origin dest ≡ Ok e → AreEnds p e
  told_are origin dest e told = go (element_number p origin) (element_number p dest) refl refl told
    where
      go : (i j : Option ℕ) → element_number p origin ≡ i → element_number p dest ≡ j → ends_found p i j ≡ Ok e → AreEnds p e
      go None j f g h = cc
      go (Some i) None f g h = cc
      go (Some i) (Some j) f g h = between_are i j e (known_number origin i f) (known_number dest j g) h

  -- where no route is told, there is none
  pub told_parted : (origin dest : List ℕ) → ends_of p origin dest ≡ Err NoRoute → AreParted p origin dest
  told_parted origin dest told = go (element_number p origin) (element_number p dest) refl refl told
    where
      go : (i j : Option ℕ) → element_number p origin ≡ i → element_number p dest ≡ j → ends_found p i j ≡ Err NoRoute → AreParted p origin dest
      go None j f g h = cc
      go (Some i) None f g h = cc
      go (Some i) (Some j) f g h =
          let b = between_parted i j (known_number origin i f) (known_number dest j g) h in
          record { from = i; to = j; origin_found = f; dest_found = g; sends = b.0; takes = b.1; apart = b.2; parted = b.3 }

  -- the route between ends that are told, and no other
  pub told_route : (origin dest : List ℕ) (e : Ends) → ends_of p origin dest ≡ Ok e → IsTheRoute p origin dest (route_of (elements_of p) (length p.tree) e.origin_place.0 e.dest_place.0)
  told_route origin dest e told =
      let a : AreEnds p e = told_are origin dest e told in
      let r = routes (elements_of p) (length p.tree) e.origin_place.0 e.dest_place.0 s.grown a.origin_placed a.dest_placed in
      record { ends = e; told = told; leads = r.0 a.routed; only = λ other o. (r.1 other o).1 }

  pub ends_within : (origin dest : List ℕ) (r : Result Ends RouteFault) → r ≡ ends_of p origin dest → IfOk r (AreEnds p)
  ends_within origin dest (Ok e) h = told_are origin dest e (sym h)
  ends_within origin dest (Err f) h = tt

-- The route among the segments alone is that among all elements.
pub route_of-elements : (p : Pipeline) (a b : ℕ) → route_of (elements_of p) (length p.tree) a b ≡ route_of p.tree (length p.tree) a b
route_of-elements p a b = ap (λ l. route_of l (length p.tree) a b) (elements_are p) ∙ route_with p.tree (hangers p) a b

tree_grown : (p : Pipeline) → IsGrown (length p.tree) (elements_of p) → IsGrown (length p.tree) p.tree
tree_grown p g = record {
  joins = λ k h. subst (Joins k) (ap (λ l. get_or l k (Pool 0)) (elements_are p) ∙ get_or_append_left p.tree (hangers p) (Pool 0) k h) (g.joins k h);
  others = λ k h. subst IsNoSegment (sym (get_or_past p.tree k (Pool 0) h)) tt;
}

module _ (p : Pipeline) (s : IsSystem p) where
  pub found_route : (origin dest : List ℕ) (e : Ends) → ends_of p origin dest ≡ Ok e → (r : List ℕ) → r ≡ route_of p.tree (length p.tree) e.origin_place.0 e.dest_place.0 → IsTheRoute p origin dest r
  found_route origin dest e told r same =
      subst (IsTheRoute p origin dest) (route_of-elements p e.origin_place.0 e.dest_place.0 ∙ sym same) (told_route p s origin dest e told)

  pub some_route : (e : Ends) → AreEnds p e → IsRoute p.tree e.origin_place.0 (route_of p.tree (length p.tree) e.origin_place.0 e.dest_place.0) e.dest_place.0
  some_route e a =
      let runs = sym (has_route-elements p e.origin_place.0 e.dest_place.0) ∙ a.routed in
      (routes p.tree (length p.tree) e.origin_place.0 e.dest_place.0 (tree_grown p s.grown) a.origin_placed a.dest_placed).0 runs
