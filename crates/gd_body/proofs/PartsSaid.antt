-- The rows of a pipeline say its parts.
use Rattle.std.proofs.Common.{◌≡◌, ℕ, ◌+◌, ◌-◌, ◌<◌, ◌≤◌, false, List, [], length, get_or, Option, Some, sym, ap, subst, arith, inl, inr}
use Rattle.std.specs.Prelude.{unwrap_or, IfSome}
use Rattle.std.specs.List.{AllZip}
use Rattle.std.proofs.lemmas.Bool.{cases_lt}
use Rattle.std.proofs.lemmas.Option.{unwrap_or-slice_get, slice_get-get_or}
use Rattle.gd_rules.specs.Question as rules
use Rattle.gd_rules.specs.Question.Element.{Segment as segment, Receipt as receipt, Delivery as delivery, Pool as pool}
use Rattle.gd_rules.specs.Question.{place_of}
use Rattle.gd_tree.specs.Grown.{Joins}
use Rattle.gd_units.specs.declared.service.Kind.{Kind}
use Rattle.gd_units.specs.declared.service.Kind.TheVariants as way
use Rattle.gd_system.specs.Pipeline.{Pipeline, elements_of, names_of, capacity_of, operator_at, point_element}
use Rattle.gd_system.specs.Route.{element_at}
use Rattle.gd_system.specs.declared.part.Point.{Point}
use Rattle.gd_system.specs.declared.part.Pool.{Pool}
use Rattle.gd_system.proofs.Slots as slots
use Rattle.gd_body.specs.Publishable.{IsName, IsQuantity, IsBuiltPipeline}
use Rattle.gd_body.specs.Rows.{place_name, element_name, operator_name, part_fields, part_row, part_rows}
use Rattle.gd_body.proofs.Said.{part_said, part_at, parts_said}
use Rattle.gd_body.proofs.RowGroups.{zips_range}
use Rattle.gd_body.proofs.RowsStand.{Says, segment_says, receipt_says, delivery_says, pool_says}

-- the names and the number that an element's row has beside its own name
abbrev pub IsNamed : Pipeline → List ℕ → rules.Element → Type 0
IsNamed p operator (segment from to capacity) = IsName (place_name p from) × IsName (place_name p to) × IsQuantity capacity
IsNamed p operator (receipt place capacity) = IsName (place_name p place) × IsName operator × IsQuantity capacity
IsNamed p operator (delivery place capacity) = IsName (place_name p place) × IsName operator × IsQuantity capacity
IsNamed p operator (pool place) = IsName (place_name p place) × IsName operator

part_says : (p : Pipeline) (name operator : List ℕ) (x : rules.Element) → IsName name → IsNamed p operator x → Says false 1 (part_fields p name operator x) (part_said p name operator x)
part_says p name operator (segment from to capacity) n h = segment_says name (place_name p from) (place_name p to) capacity n h.0 h.1 h.2
part_says p name operator (receipt place capacity) n h = receipt_says name (place_name p place) operator capacity n h.0 h.1 h.2
part_says p name operator (delivery place capacity) n h = delivery_says name (place_name p place) operator capacity n h.0 h.1 h.2
part_says p name operator (pool place) n h = pool_says name (place_name p place) operator n h.0 h.1

module _ (p : Pipeline) (m : IsBuiltPipeline p) where
  pub place_named : (place : ℕ) → place ≤ length p.tree → IsName (place_name p place)
  place_named place low = subst IsName (sym (unwrap_or-slice_get p.places place [])) (m.places place [] (omega (arith, m.known.placed)))

  long_names : length (names_of p) ≡ length (elements_of p)
  long_names = omega (arith, slots.length-names p, slots.length-elements p, m.known.named)

  pub element_named : (e : ℕ) → e < length (elements_of p) → IsName (element_name p e)
  element_named e low = subst IsName (sym (unwrap_or-slice_get (names_of p) e [])) (m.names e [] (omega (arith, long_names)))

  quantity_at : (e : ℕ) → e < length (elements_of p) → IfSome (capacity_of (element_at p e)) IsQuantity
  quantity_at e low = m.capacities e (pool 0) low

  segment_named : (e : ℕ) (operator : List ℕ) (x : rules.Element) → e < length p.tree → Joins e x → IfSome (capacity_of x) IsQuantity → IsNamed p operator x
  segment_named e operator (segment from to capacity) low (inl j) small = (place_named from (omega (arith, j)), place_named to (omega (arith, j)), small)
  segment_named e operator (segment from to capacity) low (inr j) small = (place_named from (omega (arith, j)), place_named to (omega (arith, j)), small)
  segment_named e operator (receipt place capacity) low j small = absurd j
  segment_named e operator (delivery place capacity) low j small = absurd j
  segment_named e operator (pool place) low j small = absurd j

  point_named : (kind : Kind) (place capacity : ℕ) (operator : List ℕ) → place_of (point_element kind place capacity) ≤ length p.tree → IfSome (capacity_of (point_element kind place capacity)) IsQuantity → IsName operator
      → IsNamed p operator (point_element kind place capacity)
  point_named way.Receipt place capacity operator low small o = (place_named place low, o, small)
  point_named way.Delivery place capacity operator low small o = (place_named place low, o, small)

  operator_is : (e : ℕ) (operator : List ℕ) → operator_at p e ≡ Some operator → operator_name p e ≡ operator
  operator_is e operator h = ap (λ (o : Option (List ℕ)). unwrap_or o []) h

  named_at : (e : ℕ) → e < length (elements_of p) → IsNamed p (operator_name p e) (element_at p e)
  named_at e low = elim (cases_lt e (length p.tree)) [
    | inl first ↦ segment_named e (operator_name p e) (element_at p e) first (m.known.grown.joins e first) (quantity_at e low)
    | inr rest ↦ elim (cases_lt e (length p.tree + length p.points)) [
      | inl second ↦
          let no_point : List ℕ × Point = ([], record { kind = way.Receipt; place = record { 0 = 0 }; operator = []; capacity = 0 }) in
          let it : List ℕ × Point = get_or p.points (e - length p.tree) no_point in
          let r = slots.point_row p m.known.named e it.0 it.1 rest (slice_get-get_or p.points (e - length p.tree) no_point (omega arith)) in
          let o = m.point_operators (e - length p.tree) no_point (omega arith) in
          subst (λ (x : List ℕ). IsNamed p x (element_at p e)) (sym (operator_is e it.1.operator r.2))
          (subst (IsNamed p it.1.operator) (sym r.0) (point_named it.1.kind it.1.place.0 it.1.capacity it.1.operator
          (subst (λ (x : rules.Element). place_of x ≤ length p.tree) r.0 (m.known.hung e low))
          (subst (λ (x : rules.Element). IfSome (capacity_of x) IsQuantity) r.0 (quantity_at e low)) o))
      | inr third ↦
          let no_pool : List ℕ × Pool = ([], record { place = record { 0 = 0 }; operator = [] }) in
          let at : ℕ = e - (length p.tree + length p.points) in
          let it : List ℕ × Pool = get_or p.pools at no_pool in
          let within : at < length p.pools = omega (arith, slots.length-elements p) in
          let r = slots.pool_row p m.known.named e it.0 it.1 third (slice_get-get_or p.pools at no_pool within) in
          let o = m.pool_operators at no_pool within in
          subst (λ (x : List ℕ). IsNamed p x (element_at p e)) (sym (operator_is e it.1.operator r.2))
          (subst (IsNamed p it.1.operator) (sym r.0) (place_named it.1.place.0 (subst (λ (x : rules.Element). place_of x ≤ length p.tree) r.0 (m.known.hung e low)), o))
    ]
  ]

  pub parts_say : AllZip (Says false 1) (part_rows p) (parts_said p)
  parts_say = zips_range (Says false 1) (part_row p) (part_at p) (length (elements_of p)) 0
      (λ e low. let in' : e < length (elements_of p) = omega (arith, low) in part_says p (element_name p e) (operator_name p e) (element_at p e) (element_named e in') (named_at e in'))
