-- The rows that say a posting ask its question.
use Rattle.std.proofs.Common.{◌≡◌, ℕ, zero, suc, ◌+◌, ◌<◌, ◌≤◌, ◌==◌, ◌||◌, nat_lt, nat_le, Bool, true, false, IsTrue, List, [], ◌∷◌, ◌++◌, length, get_or, set, take, drop, map, Some, None, Result, Ok, refl, sym, ap, ap₂, subst, ◌∙◌, if◌then◌else◌, arith, inl, inr, append-nil}
use Rattle.std.specs.Prelude.{◌⊎◌}
use Rattle.std.specs.List.{flat_map, range_with_len}
use Rattle.std.proofs.lemmas.Bool.Decides.{nat_tests}
use Rattle.std.proofs.lemmas.Bool.{ne_eqb}
use Rattle.std.proofs.lemmas.List.{append_assoc, take_more, take_all, drop_more, drop_all, get_or_at, set_at, length-take-le, length-append, length-drop}
use Rattle.std.proofs.lemmas.Option.{unwrap_or-slice_get}
use Rattle.gd_rules.specs.Limits.{classes, most_lines}
use Rattle.gd_rules.specs.Question as rules
use Rattle.gd_rules.specs.Question.Element.{Segment as segment, Receipt as receipt, Delivery as delivery, Pool as pool}
use Rattle.gd_rules.specs.Tree.{CanSend, CanTake}
use Rattle.gd_rules.specs.Question.{place_of}
use Rattle.gd_tree.specs.Grown.{has_route}
use Rattle.gd_system.specs.Pipeline.{Pipeline, elements_of, names_of, capacity_of, number_of, element_number}
use Rattle.gd_system.specs.Route.{element_at, is_segment, is_receipt, is_delivery, ends_at, ends_between, ends_found, ends_of}
use Rattle.gd_system.specs.Ends.{AreEnds}
use Rattle.gd_system.specs.declared.part.Ends.{Ends}
use Rattle.gd_system.proofs.Slots as slots
use Rattle.gd_system.proofs.NamedEnds.{ends_are}
use Rattle.gd_question.specs.Posing.{Posed}
use Rattle.gd_question.specs.Filling.{posed, capacity_fault, with_capacity, changed, line_within, with_line, lengthened}
use Rattle.gd_question.specs.InForce.{with_limit, limit_fault}
use Rattle.gd_question.specs.declared.fault.CapacityFault.TheVariants.{UnknownElement}
use Rattle.gd_board.specs.declared.posting.Posting.{Posting}
use Rattle.gd_text_part.specs.Rows.{◌>>=◌}
use Rattle.gd_text_part.specs.declared.fault.TextFault.{TextFault}
use Rattle.gd_text_part.specs.declared.row.Row.{Row}
use Rattle.gd_text_part.specs.declared.row.Row.TheVariants as row
use Rattle.gd_text_part.specs.declared.row.QuestionRow.TheVariants as question
use Rattle.gd_text.specs.Building.{built_from, result_as}
use Rattle.gd_text.specs.Values.{question_step, capacity_at as capacity_taken, capacity_fault_at, line_fault_at, head_of, question_under, question_about, question_of}
use Rattle.gd_body.specs.Publishable.{IsBuiltPipeline, IsPosedQuestion, IsPublishable}
use Rattle.gd_body.specs.Rows.{element_name, operator_name}
use Rattle.gd_body.proofs.Said.{part_said, part_at, parts_said, head_said, capacity_said, capacity_at, capacities_said, line_said, lines_said, scheds_said, prices_said, bumped_said, rows_said}
use Rattle.gd_body.proofs.NamesApart.{number_found}
use Rattle.gd_body.proofs.Passing.{Passes, built_on, passed, all_passed}
use Rattle.gd_body.proofs.PipelineAgain.{pipeline_again}
use Rattle.gd_body.proofs.SaidRows.{each_append, parts_each, scheds_each, prices_each, bumped_each}
use Rattle.gd_body.proofs.PosedLines.{IsForced, IsPosedLine, elements_long, forced_at, posed_lines}

-- what the rows of an element's capacity make of it
abbrev IsChange : List ℕ → rules.Element → rules.Element → Type 0
IsChange name own held =
    ((capacity_said name (capacity_of own) (capacity_of held) ≡ []) × (held ≡ own))
    ⊎ ((limit : ℕ) × (capacity_said name (capacity_of own) (capacity_of held) ≡ row.Question (question.Capacity name limit) ∷ []) × (limit_fault own ≡ None) × (with_limit own limit ≡ held))

same_capacity : (name : List ℕ) (own : ℕ) → capacity_said name (Some own) (Some own) ≡ []
same_capacity name own = let same : (own == own) ≡ true = grind (arith, nat_tests) in rw same refl

change_of : (name : List ℕ) (x : rules.Element) (own limit : ℕ) → capacity_of x ≡ Some own → capacity_of (with_limit x limit) ≡ Some limit → limit_fault x ≡ None → with_limit x own ≡ x → IsChange name x (with_limit x limit)
change_of name x own limit a b free same = go (own == limit) refl
  where
    said : capacity_said name (capacity_of x) (capacity_of (with_limit x limit)) ≡ (if own == limit then [] else row.Question (question.Capacity name limit) ∷ [])
    said = ap₂ (capacity_said name) a b

    go : (v : Bool) → (own == limit) ≡ v → IsChange name x (with_limit x limit)
    go true e =
        let is : limit ≡ own = grind (arith, nat_tests) in
        inl (said ∙ ap (λ v. if v then [] else row.Question (question.Capacity name limit) ∷ []) e, ap (with_limit x) is ∙ same)
    go false e = inr (limit, said ∙ ap (λ v. if v then [] else row.Question (question.Capacity name limit) ∷ []) e, free, refl)

changes : (name : List ℕ) (x held : rules.Element) → IsForced x held → IsChange name x held
changes name (segment from to own) held (inl e) = inl (ap (λ (y : rules.Element). capacity_said name (Some own) (capacity_of y)) e ∙ same_capacity name own, e)
changes name (receipt place own) held (inl e) = inl (ap (λ (y : rules.Element). capacity_said name (Some own) (capacity_of y)) e ∙ same_capacity name own, e)
changes name (delivery place own) held (inl e) = inl (ap (λ (y : rules.Element). capacity_said name (Some own) (capacity_of y)) e ∙ same_capacity name own, e)
changes name (pool place) held (inl e) = inl (refl, e)
changes name (segment from to own) held (inr f) = subst (IsChange name (segment from to own)) (sym f.1) (change_of name (segment from to own) own f.0 refl refl refl refl)
changes name (receipt place own) held (inr f) = subst (IsChange name (receipt place own)) (sym f.1) (change_of name (receipt place own) own f.0 refl refl refl refl)
changes name (delivery place own) held (inr f) = subst (IsChange name (delivery place own)) (sym f.1) (change_of name (delivery place own) own f.0 refl refl refl refl)
changes name (pool place) held (inr f) = subst (IsChange name (pool place)) (sym f.1) (inl (refl, refl))

-- ends that pass the tests
passing : (p : Pipeline) (o d : ℕ) → (is_segment (element_at p o) || is_segment (element_at p d)) ≡ false → (is_delivery (element_at p o) || is_receipt (element_at p d)) ≡ false → (o == d) ≡ false
    → has_route (elements_of p) (length p.tree) (place_of (element_at p o)) (place_of (element_at p d)) ≡ true → ends_between p o d ≡ Ok (ends_at p o d)
passing p o d a b c r = rw (a, b, c, r) refl

no_segments : (x y : rules.Element) → CanSend x → CanTake y → (is_segment x || is_segment y) ≡ false
no_segments (segment from to capacity) y s t = absurd s
no_segments (delivery place capacity) y s t = absurd s
no_segments (receipt a b) (segment from to capacity) s t = absurd t
no_segments (receipt a b) (receipt place capacity) s t = absurd t
no_segments (receipt a b) (delivery place capacity) s t = refl
no_segments (receipt a b) (pool place) s t = refl
no_segments (pool a) (segment from to capacity) s t = absurd t
no_segments (pool a) (receipt place capacity) s t = absurd t
no_segments (pool a) (delivery place capacity) s t = refl
no_segments (pool a) (pool place) s t = refl

right_ends : (x y : rules.Element) → CanSend x → CanTake y → (is_delivery x || is_receipt y) ≡ false
right_ends (segment from to capacity) y s t = absurd s
right_ends (delivery place capacity) y s t = absurd s
right_ends (receipt a b) (segment from to capacity) s t = absurd t
right_ends (receipt a b) (receipt place capacity) s t = absurd t
right_ends (receipt a b) (delivery place capacity) s t = refl
right_ends (receipt a b) (pool place) s t = refl
right_ends (pool a) (segment from to capacity) s t = absurd t
right_ends (pool a) (receipt place capacity) s t = absurd t
right_ends (pool a) (delivery place capacity) s t = refl
right_ends (pool a) (pool place) s t = refl

true_of : (b : Bool) → IsTrue b → b ≡ true
true_of true t = refl
true_of false t = absurd (let e : false ≡ true = t in cc)

module _ (p : Pipeline) (m : IsBuiltPipeline p) where
  long_names : length (names_of p) ≡ length (elements_of p)
  long_names = omega (arith, slots.length-names p, slots.length-elements p, m.known.named)

  -- an element is found by its name
  pub element_found : (e : ℕ) → e < length (elements_of p) → element_number p (element_name p e) ≡ Some e
  element_found e low =
      ap (number_of (names_of p)) (unwrap_or-slice_get (names_of p) e [])
      ∙ ap (λ l. number_of l (get_or (names_of p) e [])) (sym (take_all (length (names_of p)) (names_of p) (omega arith)))
      ∙ number_found (names_of p) m.names_apart (length (names_of p)) e (omega (arith, long_names)) (omega arith)

  ends_told : (ends : Ends) → AreEnds p ends → ends_of p (element_name p ends.origin.0) (element_name p ends.dest.0) ≡ Ok ends
  ends_told ends are =
      ap₂ (ends_found p) (element_found ends.origin.0 are.origin_known) (element_found ends.dest.0 are.dest_known)
      ∙ passing p ends.origin.0 ends.dest.0
      (no_segments _ _ are.sends are.takes) (right_ends _ _ are.sends are.takes) (ne_eqb ends.origin.0 ends.dest.0 are.apart)
      (ap₂ (has_route (elements_of p) (length p.tree)) are.origin_hangs are.dest_hangs ∙ true_of _ are.routed)
      ∙ ap (λ (e : Ends). Ok e) (sym (ends_are p ends.origin ends.dest ends.origin_place ends.dest_place (sym are.origin_hangs) (sym are.dest_hangs)))

-- a capacity that is not refused
capacity_set : (n e limit : ℕ) (q r : Posed) (name : List ℕ) → element_number q.pipeline name ≡ Some e → capacity_fault q e ≡ None → with_capacity q e limit ≡ r
    → question_step n q (row.Question (question.Capacity name limit)) ≡ Ok r
capacity_set n e limit q r name found free is =
    ap (λ o. capacity_taken n q o limit) found ∙ ap (λ o. result_as (capacity_fault_at n) (changed o (with_capacity q e limit))) free ∙ ap (λ (x : Posed). Ok x) is

within : (count class floor ceiling : ℕ) (ends : Ends) → floor ≤ ceiling → (1 ≤ class) × (class ≤ classes) → count < most_lines → line_within count class floor ceiling (Ok ends) ≡ Ok ends
within count class floor ceiling ends low classed few =
    let a : nat_lt ceiling floor ≡ false = grind (arith, nat_tests) in
    let b : (class == 0) ≡ false = let some = classed.0 in grind (arith, nat_tests) in
    let c : nat_lt classes class ≡ false = let most = classed.1 in grind (arith, nat_tests) in
    let d : nat_le most_lines count ≡ false = grind (arith, nat_tests) in
    rw (a, b, c, d) refl

line_added : (n : ℕ) (q r : Posed) (origin dest : List ℕ) (class floor ceiling : ℕ) (ends : Ends) → ends_of q.pipeline origin dest ≡ Ok ends → floor ≤ ceiling → (1 ≤ class) × (class ≤ classes)
    → length q.asked.lines < most_lines → with_line q ends class floor ceiling ≡ r → question_step n q (row.Question (question.Line origin dest class floor ceiling)) ≡ Ok r
line_added n q r origin dest class floor ceiling ends told low classed few is =
    ap (λ o. result_as (line_fault_at n) (lengthened (λ x. with_line q x class floor ceiling) (line_within (length q.asked.lines) class floor ceiling o))) told
    ∙ ap (λ o. result_as (line_fault_at n) (lengthened (λ x. with_line q x class floor ceiling) o)) (within (length q.asked.lines) class floor ceiling ends low classed few)
    ∙ ap (λ (x : Posed). Ok x) is

module _ (q : Posed) (m : IsPosedQuestion q) where
  -- the question with the capacities of the first elements in force, and no line
  abbrev limited : ℕ → Posed
  limited k = record q { asked = record { elements = take k q.asked.elements ++ drop k (elements_of q.pipeline); lines = [] } }

  -- the question with its first lines
  abbrev lined : ℕ → Posed
  lined k = record q { asked = record { elements = q.asked.elements; lines = take k q.asked.lines } }

  abbrev with_elements : List rules.Element → Posed
  with_elements elements = record q { asked = record { elements = elements; lines = [] } }

  front_long : (k : ℕ) → k ≤ length q.asked.elements → length (take k q.asked.elements) ≡ k
  front_long k low = length-take-le k q.asked.elements low

  rest_is : (k : ℕ) → k < length (elements_of q.pipeline) → take k q.asked.elements ++ drop k (elements_of q.pipeline) ≡ take k q.asked.elements ++ element_at q.pipeline k ∷ drop (k + 1) (elements_of q.pipeline)
  rest_is k low = ap (λ l. take k q.asked.elements ++ l) (drop_more (elements_of q.pipeline) k (pool 0) low)

  next_is : (k : ℕ) → k < length q.asked.elements → take k q.asked.elements ++ rules.element q.asked k ∷ drop (k + 1) (elements_of q.pipeline) ≡ take (k + 1) q.asked.elements ++ drop (k + 1) (elements_of q.pipeline)
  next_is k low =
      sym (append_assoc (take k q.asked.elements) (rules.element q.asked k ∷ []) (drop (k + 1) (elements_of q.pipeline)))
      ∙ ap (λ l. l ++ drop (k + 1) (elements_of q.pipeline)) (sym (take_more q.asked.elements k (pool 0) low))

  unchanged : (k : ℕ) → k < length q.asked.elements → rules.element q.asked k ≡ element_at q.pipeline k → limited k ≡ limited (k + 1)
  unchanged k low is =
      ap with_elements (rest_is k (omega (arith, elements_long q m)) ∙ ap (λ x. take k q.asked.elements ++ x ∷ drop (k + 1) (elements_of q.pipeline)) (sym is) ∙ next_is k low)

  changed_at : (n k limit : ℕ) → k < length q.asked.elements → limit_fault (element_at q.pipeline k) ≡ None → with_limit (element_at q.pipeline k) limit ≡ rules.element q.asked k
      → question_step n (limited k) (row.Question (question.Capacity (element_name q.pipeline k) limit)) ≡ Ok (limited (k + 1))
  changed_at n k limit low free is =
      let below : k < length (elements_of q.pipeline) = omega (arith, elements_long q m) in
      let parts = rest_is k below in
      let front = front_long k (omega arith) in
      let at : get_or (take k q.asked.elements ++ drop k (elements_of q.pipeline)) k (pool 0) ≡ element_at q.pipeline k =
      ap (λ l. get_or l k (pool 0)) parts ∙ get_or_at (take k q.asked.elements) (element_at q.pipeline k) (drop (k + 1) (elements_of q.pipeline)) (pool 0) k front in
      let long : k < length (take k q.asked.elements ++ drop k (elements_of q.pipeline)) =
      omega (arith, below, front, length-append (take k q.asked.elements) (drop k (elements_of q.pipeline)), length-drop k (elements_of q.pipeline)) in
      let inside : nat_lt k (length (take k q.asked.elements ++ drop k (elements_of q.pipeline))) ≡ true = grind (arith, nat_tests) in
      capacity_set n k limit (limited k) (limited (k + 1)) (element_name q.pipeline k) (element_found q.pipeline m.pipeline k below)
      (ap (λ v. if v then limit_fault (get_or (take k q.asked.elements ++ drop k (elements_of q.pipeline)) k (pool 0)) else Some UnknownElement) inside ∙ ap limit_fault at ∙ free)
      (ap with_elements (
      ap (λ x. set (take k q.asked.elements ++ drop k (elements_of q.pipeline)) k (with_limit x limit)) at
      ∙ ap (set (take k q.asked.elements ++ drop k (elements_of q.pipeline)) k) is
      ∙ ap (λ l. set l k (rules.element q.asked k)) parts
      ∙ set_at (take k q.asked.elements) (element_at q.pipeline k) (drop (k + 1) (elements_of q.pipeline)) (rules.element q.asked k) k front
      ∙ next_is k low))

  forced : (k : ℕ) → k < length q.asked.elements → IsForced (element_at q.pipeline k) (rules.element q.asked k)
  forced k low =
      subst (λ (l : List rules.Element). IsForced (element_at q.pipeline k) (get_or l k (pool 0))) (sym m.elements)
      (forced_at (elements_of q.pipeline) m.limits k (pool 0))

  -- the rows of one element's capacity
  capacity_on : (k n : ℕ) (rest : List Row) → k < length q.asked.elements
      → built_from question_step n (limited k) (capacity_at q k ++ rest) ≡ built_from question_step (n + length (capacity_at q k)) (limited (k + 1)) rest
  capacity_on k n rest low = go (changes (element_name q.pipeline k) (element_at q.pipeline k) (rules.element q.asked k) (forced k low))
    where
      go : IsChange (element_name q.pipeline k) (element_at q.pipeline k) (rules.element q.asked k)
          → built_from question_step n (limited k) (capacity_at q k ++ rest) ≡ built_from question_step (n + length (capacity_at q k)) (limited (k + 1)) rest
      go (inl h) =
          let zero' : n ≡ n + 0 = omega arith in
          ap (λ l. built_from question_step n (limited k) (l ++ rest)) h.0
          ∙ ap (λ (x : Posed). built_from question_step n x rest) (unchanged k low h.1)
          ∙ ap (λ i. built_from question_step i (limited (k + 1)) rest) zero'
          ∙ ap (λ (l : List Row). built_from question_step (n + length l) (limited (k + 1)) rest) (sym h.0)
      go (inr h) =
          ap (λ l. built_from question_step n (limited k) (l ++ rest)) h.1
          ∙ built_on question_step n (limited k) (limited (k + 1)) (row.Question (question.Capacity (element_name q.pipeline k) h.0)) rest (changed_at n k h.0 low h.2 h.3)
          ∙ ap (λ (l : List Row). built_from question_step (n + length l) (limited (k + 1)) rest) (sym h.1)

  capacities_on : (left k n : ℕ) (rest : List Row) → k + left ≡ length q.asked.elements
      → built_from question_step n (limited k) (flat_map (capacity_at q) (range_with_len k left) ++ rest)
      ≡ built_from question_step (n + length (flat_map (capacity_at q) (range_with_len k left))) (limited (length q.asked.elements)) rest
  capacities_on zero k n rest is =
      let here : k ≡ length q.asked.elements = omega (arith, is) in
      let same : n ≡ n + 0 = omega arith in
      ap (λ i. built_from question_step n (limited i) rest) here ∙ ap (λ i. built_from question_step i (limited (length q.asked.elements)) rest) same
  capacities_on (suc left) k n rest is =
      let more : List Row = flat_map (capacity_at q) (range_with_len (k + 1) left) in
      let sum : n + length (capacity_at q k) + length more ≡ n + length (capacity_at q k ++ more) = omega (arith, length-append (capacity_at q k) more) in
      ap (built_from question_step n (limited k)) (append_assoc (capacity_at q k) more rest)
      ∙ capacity_on k n (more ++ rest) (omega (arith, is))
      ∙ capacities_on left (k + 1) (n + length (capacity_at q k)) rest (omega (arith, is))
      ∙ ap (λ i. built_from question_step i (limited (length q.asked.elements)) rest) sum

  -- one line more
  line_on : (n k : ℕ) → k < length q.asked.lines → question_step n (lined k) (line_said q.pipeline (rules.line q.asked k)) ≡ Ok (lined (k + 1))
  line_on n k low =
      let l : rules.Line = rules.line q.asked k in
      let made : IsPosedLine q.pipeline (rules.line q.asked k) = posed_lines q m k rules.no_line low in
      let origin : l.origin ≡ made.ends.origin.0 = ap (λ (x : rules.Line). x.origin) made.is in
      let dest : l.dest ≡ made.ends.dest.0 = ap (λ (x : rules.Line). x.dest) made.is in
      let few : length (take k q.asked.lines) < most_lines = let f = m.known.few_lines in omega (arith, length-take-le k q.asked.lines (omega arith)) in
      line_added n (lined k) (lined (k + 1)) (element_name q.pipeline l.origin) (element_name q.pipeline l.dest) l.class l.floor l.ceiling made.ends
      (ap₂ (λ (i j : ℕ). ends_of q.pipeline (element_name q.pipeline i) (element_name q.pipeline j)) origin dest ∙ ends_told q.pipeline m.pipeline made.ends made.are)
      made.bounds made.classed few
      (ap (λ (ls : List rules.Line). record q { asked = record { elements = q.asked.elements; lines = ls } })
      (ap (λ (x : rules.Line). take k q.asked.lines ++ x ∷ []) (sym made.is) ∙ sym (take_more q.asked.lines k rules.no_line low)))

  lines_on : (left k n : ℕ) (rest : List Row) → k + left ≡ length q.asked.lines
      → built_from question_step n (lined k) (map (line_said q.pipeline) (drop k q.asked.lines) ++ rest) ≡ built_from question_step (n + left) (lined (length q.asked.lines)) rest
  lines_on zero k n rest is =
      let here : k ≡ length q.asked.lines = omega (arith, is) in
      let same : n ≡ n + 0 = omega arith in
      ap (λ l. built_from question_step n (lined k) (map (line_said q.pipeline) l ++ rest)) (drop_all k q.asked.lines (omega (arith, is)))
      ∙ ap (λ i. built_from question_step n (lined i) rest) here ∙ ap (λ i. built_from question_step i (lined (length q.asked.lines)) rest) same
  lines_on (suc left) k n rest is =
      let low : k < length q.asked.lines = omega (arith, is) in
      let same : n + 1 + left ≡ n + suc left = omega arith in
      ap (λ l. built_from question_step n (lined k) (map (line_said q.pipeline) l ++ rest)) (drop_more q.asked.lines k rules.no_line low)
      ∙ built_on question_step n (lined k) (lined (k + 1)) (line_said q.pipeline (rules.line q.asked k)) _ (line_on n k low)
      ∙ lines_on left (k + 1) (n + 1) rest (omega (arith, is))
      ∙ ap (λ i. built_from question_step i (lined (length q.asked.lines)) rest) same

  between : limited (length q.asked.elements) ≡ lined 0
  between =
      ap (λ l. with_elements (l ++ drop (length q.asked.elements) (elements_of q.pipeline))) (take_all (length q.asked.elements) q.asked.elements (omega arith))
      ∙ ap (λ l. with_elements (q.asked.elements ++ l)) (drop_all (length q.asked.elements) (elements_of q.pipeline) (omega (arith, elements_long q m)))
      ∙ ap with_elements (append-nil q.asked.elements)

  ended : lined (length q.asked.lines) ≡ q
  ended = ap (λ (ls : List rules.Line). record q { asked = record { elements = q.asked.elements; lines = ls } }) (take_all (length q.asked.lines) q.asked.lines (omega arith))

part_heads : (p : Pipeline) (name operator : List ℕ) (x : rules.Element) (rows : List Row) → head_of (part_said p name operator x ∷ rows) ≡ head_of rows
part_heads p name operator (segment from to capacity) rows = refl
part_heads p name operator (receipt place capacity) rows = refl
part_heads p name operator (delivery place capacity) rows = refl
part_heads p name operator (pool place) rows = refl

heads : (p : Pipeline) (es : List ℕ) (rows : List Row) → head_of (map (part_at p) es ++ rows) ≡ head_of rows
heads p [] rows = refl
heads p (e ∷ es) rows = part_heads p (element_name p e) (operator_name p e) (element_at p e) (map (part_at p) es ++ rows) ∙ heads p es rows

in_turn : (a b c d e : List Row) → (((a ++ b) ++ c) ++ d) ++ e ≡ a ++ (b ++ (c ++ (d ++ e)))
in_turn a b c d e = simp append_assoc

module _ (p : Posting) (m : IsPublishable p) where
  abbrev split : List Row
  split = parts_said p.question.pipeline ++ ((head_said p.question ∷ []) ++ (capacities_said p.question ++ (lines_said p.question ++ ((scheds_said p.schedule ++ prices_said (names_of p.question.pipeline) p.prices) ++ bumped_said p.bumped))))

  split_is : rows_said p ≡ split
  split_is = in_turn (parts_said p.question.pipeline) (head_said p.question ∷ []) (capacities_said p.question) (lines_said p.question) ((scheds_said p.schedule ++ prices_said (names_of p.question.pipeline) p.prices) ++ bumped_said p.bumped)

  asked_again : built_from question_step 1 (posed p.question.pipeline p.question.book p.question.cycle p.question.round) split ≡ Ok p.question
  asked_again =
      let q : Posed = p.question in
      let last : List Row = (scheds_said p.schedule ++ prices_said (names_of p.question.pipeline) p.prices) ++ bumped_said p.bumped in
      let third : List Row = lines_said q ++ last in
      let second : List Row = capacities_said q ++ third in
      passed question_step (parts_said q.pipeline) (head_said q ∷ second) 1 (limited q m.question 0)
      (parts_each (Passes question_step) (λ x. record { over = λ n y. refl }) q.pipeline)
      ∙ built_on question_step (1 + length (parts_said q.pipeline)) (limited q m.question 0) (limited q m.question 0) (head_said q) second refl
      ∙ capacities_on q m.question (length q.asked.elements) 0 (1 + length (parts_said q.pipeline) + 1) third (omega arith)
      ∙ ap (λ (x : Posed). built_from question_step (1 + length (parts_said q.pipeline) + 1 + length (capacities_said q)) x third) (between q m.question)
      ∙ lines_on q m.question (length q.asked.lines) 0 (1 + length (parts_said q.pipeline) + 1 + length (capacities_said q)) last (omega arith)
      ∙ ap (λ (x : Posed). built_from question_step (1 + length (parts_said q.pipeline) + 1 + length (capacities_said q) + length q.asked.lines) x last) (ended q m.question)
      ∙ all_passed question_step last (1 + length (parts_said q.pipeline) + 1 + length (capacities_said q) + length q.asked.lines) q
      (each_append (Passes question_step) (scheds_said p.schedule ++ prices_said (names_of p.question.pipeline) p.prices) (bumped_said p.bumped)
      (each_append (Passes question_step) (scheds_said p.schedule) (prices_said (names_of p.question.pipeline) p.prices)
      (scheds_each (Passes question_step) (λ line quantity. record { over = λ n y. refl }) p.schedule)
      (prices_each (Passes question_step) (λ name level word spread. record { over = λ n y. refl }) (names_of p.question.pipeline) p.prices))
      (bumped_each (Passes question_step) (λ line quantity. record { over = λ n y. refl }) p.bumped))

  pub question_again : question_of (rows_said p) ≡ Ok p.question
  question_again =
      ap (λ (r : Result Pipeline TextFault). r >>= question_about (rows_said p)) (pipeline_again p m)
      ∙ ap (question_under (rows_said p) p.question.pipeline) (ap head_of split_is ∙ heads p.question.pipeline (range_with_len 0 (length (elements_of p.question.pipeline))) _)
      ∙ ap (built_from question_step 1 (posed p.question.pipeline p.question.book p.question.cycle p.question.round)) split_is
      ∙ asked_again
