-- What is asked, in terms of what lies in memory.
use Rattle.std.proofs.Common.{◌≡◌, ℕ, ◌<◌, ◌≤◌, List, [], ◌∷◌, ◌++◌, get_or, set, map, length, refl, sym, ap, ◌∙◌, subst, arith, inl, inr, Option, Some, None, IsSome, Ok, Bool, true, false, append_assoc, nat_lt}
use Rattle.std.specs.Prelude.{◌⊎◌, if◌then◌else◌}
use Rattle.std.proofs.lemmas.List.{length-map, length-append, get_or-map, get_or_append_left, get_or_push}
use Rattle.std.proofs.lemmas.Bool.Decides.{nat_tests}
use Rattle.gd_rules.specs.Question as rules
use Rattle.gd_rules.specs.Question.Element.{Segment, Receipt, Delivery, Pool}
use Rattle.gd_tree.specs.Grown.{route_of}
use Rattle.gd_tree.proofs.Agreement.{route_with}
use Rattle.gd_tree.proofs.Grown.{below_or}
use Rattle.gd_system.specs.Pipeline.{Pipeline, elements_of}
use Rattle.gd_system.specs.Route.{element_at}
use Rattle.gd_question.specs.Posing.{Posed}
use Rattle.gd_question.specs.Filling.{capacity_fault, changed, after_capacity}
use Rattle.gd_question.specs.InForce.{with_limit, limit_fault, in_force}
use Rattle.gd_question.specs.Known.{limit_of}
use Rattle.gd_question.specs.Rows.{line_of}
use Rattle.gd_question.specs.Stored.{IsRow}
use Rattle.gd_question.specs.Inside.{posed_of, IsSound}
use Rattle.gd_question.specs.declared.fault.CapacityFault.{CapacityFault}
use Rattle.gd_question.specs.declared.fault.CapacityFault.TheVariants.{UnknownElement, IsPool}
use Rattle.gd_question.specs.declared.question.Row.{Row}
use Rattle.gd_question.specs.declared.question.Question.TheInside.{Inside}
use Rattle.gd_question.proofs.InForceLemmas.{length-in_force, in_force-at, in_force-past, in_force-set}
use Rattle.gd_question.proofs.Limits.{as_point, as_pool, pools_last, limits_first, fault_none, limit-with_limit}
use Rattle.gd_question.proofs.Sound.{Each}

-- the route between two places, from the tree alone
tree_route : (p : Pipeline) (a b : ℕ) → route_of (elements_of p) (length p.tree) a b ≡ route_of p.tree (length p.tree) a b
tree_route p a b =
    ap (λ es. route_of es (length p.tree) a b) (append_assoc p.tree (map as_point p.points) (map as_pool p.pools))
    ∙ route_with p.tree (map as_point p.points ++ map as_pool p.pools) a b

fault_pool : (e : rules.Element) → limit_of e ≡ None → limit_fault e ≡ Some IsPool
fault_pool (Segment from to capacity) h = cc
fault_pool (Receipt place capacity) h = cc
fault_pool (Delivery place capacity) h = cc
fault_pool (Pool place) h = refl

some_is : (o : Option ℕ) (x : ℕ) → o ≡ Some x → IsSome o
some_is o x h = rw h refl

fault_if : (b : Bool) (o : Option CapacityFault) → b ≡ true → (if b then o else Some UnknownElement) ≡ o
fault_if b o h = rw h refl

no_fault_if : (b : Bool) (o : Option CapacityFault) → b ≡ false → (if b then o else Some UnknownElement) ≡ Some UnknownElement
no_fault_if b o h = rw h refl

pub below_yes : (a b : ℕ) → a < b → nat_lt a b ≡ true
below_yes a b h = grind (arith, nat_tests)

pub below_no : (a b : ℕ) → b ≤ a → nat_lt a b ≡ false
below_no a b h = grind (arith, nat_tests)

module _ (q : Inside) (value : Posed) (same : posed_of q ≡ value) where
  pub element_count_is : length value.asked.elements ≡ length (elements_of q.system)
  element_count_is = sym (ap (λ (p : Posed). length p.asked.elements) same) ∙ length-in_force (elements_of q.system) q.capacities.items

  pub element_is : (e : ℕ) → rules.element value.asked e ≡ get_or (in_force (elements_of q.system) q.capacities.items) e (Pool 0)
  element_is e = sym (ap (λ (p : Posed). rules.element p.asked e) same)

  pub line_is : (at : ℕ) (row : Row) → at < length value.asked.lines → row ≡ get_or q.rows.items at row → rules.line value.asked at ≡ line_of q.system row
  line_is at row h e =
      let known : at < length (map (line_of q.system) q.rows.items) = subst (λ (p : Posed). at < length p.asked.lines) (sym same) h in
      let within : at < length q.rows.items = subst (λ n. at < n) (length-map q.rows.items (line_of q.system)) known in
      sym (ap (λ (p : Posed). rules.line p.asked at) same) ∙ get_or-map (line_of q.system) q.rows.items at row rules.no_line within ∙ ap (line_of q.system) (sym e)

  pub row_at : (at : ℕ) (row : Row) → IsSound q → at < length value.asked.lines → row ≡ get_or q.rows.items at row → IsRow q.system row
  row_at at row i h e =
      let known : at < length (map (line_of q.system) q.rows.items) = subst (λ (p : Posed). at < length p.asked.lines) (sym same) h in
      i.rows at row (subst (λ n. at < n) (length-map q.rows.items (line_of q.system)) known) e

  pub route_is : (at : ℕ) (row : Row) → at < length value.asked.lines → row ≡ get_or q.rows.items at row
      → (rules.line value.asked at).route ≡ route_of q.system.tree (length q.system.tree) row.ends.origin_place.0 row.ends.dest_place.0
  route_is at row h e = ap (λ (l : rules.Line). l.route) (line_is at row h e) ∙ tree_route q.system row.ends.origin_place.0 row.ends.dest_place.0

  pub pool_is : (e : ℕ) → IsSound q → length q.capacities.items ≤ e → rules.element value.asked e ≡ element_at q.system e
  pool_is e i h = element_is e ∙ in_force-past (elements_of q.system) q.capacities.items e h

  pub limited_is : (e : ℕ) → e < length q.capacities.items → e < length (elements_of q.system) → rules.element value.asked e ≡ with_limit (element_at q.system e) (get_or q.capacities.items e 0)
  limited_is e h k = element_is e ∙ in_force-at (elements_of q.system) q.capacities.items e h k

  pub unknown_is : (e : ℕ) → length (elements_of q.system) ≤ e → capacity_fault value e ≡ Some UnknownElement
  unknown_is e h =
      let past : length value.asked.elements ≤ e = subst (λ n. n ≤ e) (sym element_count_is) h in
      no_fault_if (nat_lt e (length value.asked.elements)) (limit_fault (rules.element value.asked e)) (below_no e (length value.asked.elements) past)

  known_fault : (e : ℕ) → e < length (elements_of q.system) → capacity_fault value e ≡ limit_fault (rules.element value.asked e)
  known_fault e h =
      let below : e < length value.asked.elements = subst (λ n. e < n) (sym element_count_is) h in
      fault_if (nat_lt e (length value.asked.elements)) (limit_fault (rules.element value.asked e)) (below_yes e (length value.asked.elements) below)

  pub is_pool : (e : ℕ) → IsSound q → e < length (elements_of q.system) → length q.capacities.items ≤ e → capacity_fault value e ≡ Some IsPool
  is_pool e i h k =
      known_fault e h ∙ ap limit_fault (pool_is e i k) ∙ fault_pool (element_at q.system e) (pools_last q.system e (let l = i.limited in omega arith))

  pub has_limit : (e : ℕ) → IsSound q → e < length (elements_of q.system) → e < length q.capacities.items → capacity_fault value e ≡ None
  has_limit e i h k =
      let some : IsSome (limit_of (element_at q.system e)) = limits_first q.system e i.system (let l = i.limited in omega arith) in
      let limit = limit-with_limit (element_at q.system e) (get_or q.capacities.items e 0) some in
      known_fault e h ∙ ap limit_fault (limited_is e k h) ∙ fault_none (with_limit (element_at q.system e) (get_or q.capacities.items e 0)) (some_is (limit_of (with_limit (element_at q.system e) (get_or q.capacities.items e 0))) (get_or q.capacities.items e 0) limit)

  pub changed_is : (e x : ℕ) → IsSound q → e < length (elements_of q.system) → e < length q.capacities.items
      → after_capacity value e x ≡ Ok (record {
        pipeline = q.system;
        asked = record { elements = in_force (elements_of q.system) (set q.capacities.items e x); lines = map (line_of q.system) q.rows.items };
        book = q.book;
        cycle = q.cycle;
        round = q.round;
      })
  changed_is e x i h k =
      ap (λ f. changed f (record value { asked = record value.asked { elements = set value.asked.elements e (with_limit (rules.element value.asked e) x) } })) (has_limit e i h k)
      ∙ ap (λ (p : Posed). Ok (record p { asked = record p.asked { elements = set p.asked.elements e (with_limit (rules.element p.asked e) x) } })) (sym same)
      ∙ ap (λ (es : List rules.Element). Ok (record { pipeline = q.system; asked = record { elements = es; lines = map (line_of q.system) q.rows.items }; book = q.book; cycle = q.cycle; round = q.round }))
      (sym (in_force-set (elements_of q.system) q.capacities.items e x k))

-- one row more
pub rows_more : (p : Pipeline) (rows : List Row) (r : Row) → Each p rows → IsRow p r → Each p (rows ++ r ∷ [])
rows_more p rows r all one i row h e = go (below_or i (length rows))
  where
    go : (i < length rows) ⊎ (length rows ≤ i) → IsRow p row
    go (inl k) = all i row k (e ∙ get_or_append_left rows (r ∷ []) row i k)
    go (inr k) =
        let size = length-append rows (r ∷ []) in
        let last : length rows ≡ i = omega arith in
        subst (IsRow p) (sym (e ∙ get_or_push rows r row i last)) one
