-- The rows that say a posting build its pipeline.
use Rattle.std.proofs.Common.{◌≡◌, ℕ, zero, suc, ◌+◌, ◌-◌, ◌<◌, ◌≤◌, ◌==◌, false, List, [], ◌∷◌, ◌++◌, length, get_or, map, Option, Some, Result, Ok, refl, ap, subst, ◌∙◌, arith}
use Rattle.std.specs.Prelude.{slice_get, unwrap_or}
use Rattle.std.specs.List.{range_with_len}
use Rattle.std.proofs.lemmas.Bool.Decides.{nat_tests}
use Rattle.std.proofs.lemmas.List.{append_assoc, map-append}
use Rattle.std.proofs.lemmas.Option.{slice_get-get_or}
use Rattle.gd_rules.specs.Question as rules
use Rattle.gd_rules.specs.Question.Element.{Segment as segment, Receipt as receipt, Delivery as delivery, Pool as pool}
use Rattle.gd_rules.specs.Question.{place_of}
use Rattle.gd_tree.specs.Grown.{Joins}
use Rattle.gd_units.specs.declared.service.Kind.{Kind}
use Rattle.gd_units.specs.declared.service.Kind.TheVariants as way
use Rattle.gd_system.specs.Pipeline.{Pipeline, elements_of, names_of, point_element}
use Rattle.gd_system.specs.Building.{empty}
use Rattle.gd_system.specs.Route.{element_at}
use Rattle.gd_system.specs.declared.part.Point.{Point}
use Rattle.gd_system.specs.declared.part.Pool.{Pool}
use Rattle.gd_system.proofs.Slots as slots
use Rattle.gd_board.specs.declared.posting.Posting.{Posting}
use Rattle.gd_question.specs.Posing.{Posed}
use Rattle.gd_text_part.specs.Rows.{◌>>=◌}
use Rattle.gd_text_part.specs.declared.fault.TextFault.{TextFault}
use Rattle.gd_text_part.specs.declared.row.Row.{Row}
use Rattle.gd_text_part.specs.declared.row.Row.TheVariants as row
use Rattle.gd_text_part.specs.declared.row.PipelineRow.TheVariants as pipeline
use Rattle.gd_text.specs.Building.{built_from, result_as}
use Rattle.gd_text.specs.Values.{pipeline_step, pipeline_of, build_fault_at, finished}
use Rattle.gd_body.specs.Publishable.{IsBuiltPipeline, IsPublishable}
use Rattle.gd_body.specs.Rows.{place_name, element_name, operator_name}
use Rattle.gd_body.proofs.Said.{part_said, part_at, parts_said, head_said, capacities_said, lines_said, scheds_said, prices_said, bumped_said, rows_said}
use Rattle.gd_body.proofs.Passing.{Passes, built_on, all_passed, range_parts}
use Rattle.gd_body.proofs.SaidRows.{each_append, asks_each, scheds_each, prices_each, bumped_each}
use Rattle.gd_body.proofs.Rebuilding.{of_segments, of_points, of_pools, segment_next, point_next, pool_next, all_segments, all_points, all_pools}

module _ (p : Pipeline) (m : IsBuiltPipeline p) where
  -- one part on
  segment_step : (n k : ℕ) (x : rules.Element) → k < length p.tree → element_at p k ≡ x → Joins k x → pipeline_step n (of_segments p k) (part_at p k) ≡ Ok (of_segments p (k + 1))
  segment_step n k (segment from to capacity) low is j =
      ap (λ (y : rules.Element). pipeline_step n (of_segments p k) (part_said p (element_name p k) (operator_name p k) y)) is
      ∙ ap (result_as (build_fault_at n)) (segment_next p m k from to capacity low is)
  segment_step n k (receipt place capacity) low is j = absurd j
  segment_step n k (delivery place capacity) low is j = absurd j
  segment_step n k (pool place) low is j = absurd j

  point_said : (name operator : List ℕ) (kind : Kind) (place capacity : ℕ) → part_said p name operator (point_element kind place capacity) ≡ row.Pipeline (pipeline.Point name kind (place_name p place) operator capacity)
  point_said name operator way.Receipt place capacity = refl
  point_said name operator way.Delivery place capacity = refl

  no_point : List ℕ × Point
  no_point = ([], record { kind = way.Receipt; place = record { 0 = 0 }; operator = []; capacity = 0 })

  no_pool : List ℕ × Pool
  no_pool = ([], record { place = record { 0 = 0 }; operator = [] })

  hung_place : (kind : Kind) (place capacity e : ℕ) → element_at p e ≡ point_element kind place capacity → e < length (elements_of p) → place < length p.places
  hung_place way.Receipt place capacity e is low = let h = m.known.hung e low in omega (arith, subst (λ (x : rules.Element). place_of x ≤ length p.tree) is h, m.known.placed)
  hung_place way.Delivery place capacity e is low = let h = m.known.hung e low in omega (arith, subst (λ (x : rules.Element). place_of x ≤ length p.tree) is h, m.known.placed)

  point_step : (n k : ℕ) → k < length p.points → pipeline_step n (of_points p k) (part_at p (length p.tree + k)) ≡ Ok (of_points p (k + 1))
  point_step n k low =
      let e : ℕ = length p.tree + k in
      let it : List ℕ × Point = get_or p.points k no_point in
      let at : slice_get p.points k ≡ Some it = slice_get-get_or p.points k no_point low in
      let back : length p.tree + k - length p.tree ≡ k = omega arith in
      let r = slots.point_row p m.known.named (length p.tree + k) it.0 it.1 (omega arith) (ap (slice_get p.points) back ∙ at) in
      let hung = hung_place it.1.kind it.1.place.0 it.1.capacity (length p.tree + k) r.0 (omega (arith, slots.length-elements p)) in
      ap (λ (y : rules.Element). pipeline_step n (of_points p k) (part_said p (element_name p (length p.tree + k)) (operator_name p (length p.tree + k)) y)) r.0
      ∙ ap (pipeline_step n (of_points p k)) (point_said (element_name p (length p.tree + k)) (operator_name p (length p.tree + k)) it.1.kind it.1.place.0 it.1.capacity)
      ∙ ap (λ (o : Option (List ℕ)). pipeline_step n (of_points p k) (row.Pipeline (pipeline.Point (element_name p (length p.tree + k)) it.1.kind (place_name p it.1.place.0) (unwrap_or o []) it.1.capacity))) r.2
      ∙ ap (result_as (build_fault_at n)) (point_next p m k it.0 it.1 low at hung)

  pool_step : (n k : ℕ) → k < length p.pools → pipeline_step n (of_pools p k) (part_at p (length p.tree + length p.points + k)) ≡ Ok (of_pools p (k + 1))
  pool_step n k low =
      let it : List ℕ × Pool = get_or p.pools k no_pool in
      let at : slice_get p.pools k ≡ Some it = slice_get-get_or p.pools k no_pool low in
      let back : length p.tree + length p.points + k - (length p.tree + length p.points) ≡ k = omega arith in
      let r = slots.pool_row p m.known.named (length p.tree + length p.points + k) it.0 it.1 (omega arith) (ap (slice_get p.pools) back ∙ at) in
      let h = m.known.hung (length p.tree + length p.points + k) (omega (arith, slots.length-elements p)) in
      let hung : it.1.place.0 < length p.places = omega (arith, subst (λ (x : rules.Element). place_of x ≤ length p.tree) r.0 h, m.known.placed) in
      ap (λ (y : rules.Element). pipeline_step n (of_pools p k) (part_said p (element_name p (length p.tree + length p.points + k)) (operator_name p (length p.tree + length p.points + k)) y)) r.0
      ∙ ap (λ (o : Option (List ℕ)). pipeline_step n (of_pools p k) (row.Pipeline (pipeline.Pool (element_name p (length p.tree + length p.points + k)) (place_name p it.1.place.0) (unwrap_or o [])))) r.2
      ∙ ap (result_as (build_fault_at n)) (pool_next p m k it.0 it.1 low at hung)

  -- all parts of a kind
  phase : (state : ℕ → Pipeline) (base count : ℕ) → ((n k : ℕ) → k < count → pipeline_step n (state k) (part_at p (base + k)) ≡ Ok (state (k + 1)))
      → (left k n : ℕ) (rest : List Row) → k + left ≡ count
      → built_from pipeline_step n (state k) (map (part_at p) (range_with_len (base + k) left) ++ rest) ≡ built_from pipeline_step (n + left) (state count) rest
  phase state base count step zero k n rest is =
      let here : k ≡ count = omega (arith, is) in
      let same : n ≡ n + 0 = omega arith in
      ap (λ i. built_from pipeline_step n (state i) rest) here ∙ ap (λ i. built_from pipeline_step i (state count) rest) same
  phase state base count step (suc left) k n rest is =
      let next : base + k + 1 ≡ base + (k + 1) = omega arith in
      let same : n + 1 + left ≡ n + suc left = omega arith in
      built_on pipeline_step n (state k) (state (k + 1)) (part_at p (base + k)) _ (step n k (omega (arith, is)))
      ∙ ap (λ i. built_from pipeline_step (n + 1) (state (k + 1)) (map (part_at p) (range_with_len i left) ++ rest)) next
      ∙ phase state base count step left (k + 1) (n + 1) rest (omega (arith, is))
      ∙ ap (λ i. built_from pipeline_step i (state count) rest) same

  parts_are : parts_said p ≡ map (part_at p) (range_with_len (0 + 0) (length p.tree))
      ++ (map (part_at p) (range_with_len (length p.tree + 0) (length p.points)) ++ map (part_at p) (range_with_len (length p.tree + length p.points + 0) (length p.pools)))
  parts_are =
      let one : 0 + length p.tree ≡ length p.tree + 0 = omega arith in
      let two : length p.tree + 0 + length p.points ≡ length p.tree + length p.points + 0 = omega arith in
      ap (map (part_at p)) (
      range_parts (length p.tree) (length p.points + length p.pools) (length (elements_of p)) 0 (omega (arith, slots.length-elements p))
      ∙ ap (λ i. range_with_len 0 (length p.tree) ++ range_with_len i (length p.points + length p.pools)) one
      ∙ ap (λ l. range_with_len 0 (length p.tree) ++ l) (range_parts (length p.points) (length p.pools) (length p.points + length p.pools) (length p.tree + 0) refl
      ∙ ap (λ i. range_with_len (length p.tree + 0) (length p.points) ++ range_with_len i (length p.pools)) two)
      )
      ∙ simp map-append

  three : (a b c d : List Row) → (a ++ (b ++ c)) ++ d ≡ a ++ (b ++ (c ++ d))
  three a b c d = simp append_assoc

  -- from nothing
  pub parts_built : (rest : List Row) → built_from pipeline_step 1 empty (parts_said p ++ rest) ≡ built_from pipeline_step (1 + length (elements_of p)) p rest
  parts_built rest =
      let points : List Row = map (part_at p) (range_with_len (length p.tree + 0) (length p.points)) in
      let pools : List Row = map (part_at p) (range_with_len (length p.tree + length p.points + 0) (length p.pools)) in
      let all : 1 + length p.tree + length p.points + length p.pools ≡ 1 + length (elements_of p) = omega (arith, slots.length-elements p) in
      ap (λ l. built_from pipeline_step 1 empty (l ++ rest)) parts_are
      ∙ ap (built_from pipeline_step 1 empty) (three (map (part_at p) (range_with_len (0 + 0) (length p.tree))) points pools rest)
      ∙ phase (of_segments p) 0 (length p.tree)
      (λ n k low. let same : 0 + k ≡ k = omega arith in
      ap (λ i. pipeline_step n (of_segments p k) (part_at p i)) same ∙ segment_step n k (element_at p k) low refl (m.known.grown.joins k low))
      (length p.tree) 0 1 (points ++ (pools ++ rest)) (omega arith)
      ∙ ap (λ (q : Pipeline). built_from pipeline_step (1 + length p.tree) q (points ++ (pools ++ rest))) (all_segments p m)
      ∙ phase (of_points p) (length p.tree) (length p.points) point_step (length p.points) 0 (1 + length p.tree) (pools ++ rest) (omega arith)
      ∙ ap (λ (q : Pipeline). built_from pipeline_step (1 + length p.tree + length p.points) q (pools ++ rest)) (all_points p m)
      ∙ phase (of_pools p) (length p.tree + length p.points) (length p.pools) pool_step (length p.pools) 0 (1 + length p.tree + length p.points) rest (omega arith)
      ∙ ap (λ (q : Pipeline). built_from pipeline_step (1 + length p.tree + length p.points + length p.pools) q rest) (all_pools p m)
      ∙ ap (λ i. built_from pipeline_step i p rest) all

apart_rows : (a b c d e : List Row) → (((a ++ b) ++ c) ++ d) ++ e ≡ a ++ (((b ++ c) ++ d) ++ e)
apart_rows a b c d e = simp append_assoc

module _ (p : Posting) (m : IsPublishable p) where
  pub pipeline_again : pipeline_of (rows_said p) ≡ Ok p.question.pipeline
  pipeline_again =
      let q : Posed = p.question in
      let taken : List Row = (scheds_said p.schedule ++ prices_said (names_of p.question.pipeline) p.prices) ++ bumped_said p.bumped in
      let rest : List Row = ((head_said q ∷ [] ++ capacities_said q) ++ lines_said q) ++ taken in
      let some : (length p.question.pipeline.tree == 0) ≡ false = let t = m.question.pipeline.known.some in grind (arith, nat_tests) in
      let built : built_from pipeline_step 1 empty (rows_said p) ≡ Ok p.question.pipeline =
      ap (built_from pipeline_step 1 empty) (apart_rows (parts_said q.pipeline) (head_said q ∷ []) (capacities_said q) (lines_said q) taken)
      ∙ parts_built q.pipeline m.question.pipeline rest
      ∙ all_passed pipeline_step rest (1 + length (elements_of q.pipeline)) q.pipeline
      (each_append (Passes pipeline_step) ((head_said q ∷ [] ++ capacities_said q) ++ lines_said q) taken
      (asks_each (Passes pipeline_step) (λ x. record { over = λ n y. refl }) q)
      (each_append (Passes pipeline_step) (scheds_said p.schedule ++ prices_said (names_of p.question.pipeline) p.prices) (bumped_said p.bumped)
      (each_append (Passes pipeline_step) (scheds_said p.schedule) (prices_said (names_of p.question.pipeline) p.prices)
      (scheds_each (Passes pipeline_step) (λ line quantity. record { over = λ n y. refl }) p.schedule)
      (prices_each (Passes pipeline_step) (λ name level word spread. record { over = λ n y. refl }) (names_of p.question.pipeline) p.prices))
      (bumped_each (Passes pipeline_step) (λ line quantity. record { over = λ n y. refl }) p.bumped))) in
      ap (λ (r : Result Pipeline TextFault). r >>= finished (length (rows_said p) + 1)) built ∙ rw some refl
