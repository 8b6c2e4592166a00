-- The text of a posting has no more bytes and rows than a text may have.
use Rattle.std.proofs.Common.{◌≡◌, ℕ, zero, suc, ◌+◌, ◌*◌, ◌^◌, ◌<◌, ◌≤◌, ◌==◌, ◌&&◌, nat_le, Bool, true, false, List, [], ◌∷◌, ◌++◌, length, map, Option, Some, None, refl, ap, ◌∙◌, if◌then◌else◌, arith}
use Rattle.std.specs.Prelude.{unsigned_abs, zip}
use Rattle.std.specs.List.{AllByRecursion, flat_map, join_with_byte, range_with_len, enumerate_from, slice_index}
use Rattle.std.specs.List.Sorted.{IsStrictlyIncreasing}
use Rattle.std.proofs.lemmas.Bool.Decides.{nat_tests}
use Rattle.std.proofs.lemmas.List.{length-append, length-map, get_or-map}
use Rattle.std.proofs.lemmas.List.FromFn.{length-enumerate_from, length-range_with_len}
use Rattle.gd_rules.specs.Limits.{classes}
use Rattle.gd_rules.specs.Question as rules
use Rattle.gd_cost.specs.Parts.{class_words}
use Rattle.gd_cost.specs.declared.lex.Lex.{Lex}
use Rattle.gd_cost.specs.declared.pair.Pair.{Pair}
use Rattle.gd_system.specs.Pipeline.{elements_of, names_of, capacity_of}
use Rattle.gd_system.specs.Route.{element_at}
use Rattle.gd_system.proofs.Slots.{length-elements, length-names}
use Rattle.gd_question.specs.Posing.{Posed}
use Rattle.gd_board.specs.declared.posting.Posting.{Posting}
use Rattle.gd_text_part.specs.Csv.{records_of}
use Rattle.gd_text_part.specs.declared.input.TheConstants.{MAX_BYTES}
use Rattle.gd_text_part.specs.declared.records.TheConstants.{MAX_ROWS}
use Rattle.gd_body.specs.Body.{is_within}
use Rattle.gd_body.specs.Publishable.{IsPublishable}
use Rattle.gd_body.specs.Rows.{Fields, whole, line, lines_of, part_row, part_rows, head_row, capacity_change, capacity_row, capacity_rows, line_row, line_rows, question_rows, sched_row, sched_rows, level_row, element_rows, price_rows, bumped_row, bumped_rows, taken_rows, body_text, element_name}
use Rattle.gd_body.proofs.Plain.{IsPlainRow, IsShortField}
use Rattle.gd_body.proofs.PlainRows.{rows_are_records}
use Rattle.gd_body.proofs.PosedLines.{elements_long}
use Rattle.gd_body.proofs.RowsTold.{all_plain}

-- bytes
join_short : (fields : Fields) → AllByRecursion IsShortField fields → length (join_with_byte 44 fields) ≤ 20 * length fields
join_short [] short = omega arith
join_short (f ∷ []) short = let here : length f ≤ 19 = let h = short.0 in grind (arith, nat_tests) in omega arith
join_short (f ∷ g ∷ fields) short =
    let here : length f ≤ 19 = let h = short.0 in grind (arith, nat_tests) in
    let rest = join_short (g ∷ fields) short.1 in
    let all = length-append f (44 ∷ join_with_byte 44 (g ∷ fields)) in
    omega (arith, here, rest, all)

line_short : (row : Fields) → IsPlainRow (whole row) → length (line row) ≤ 161
line_short row plain =
    let fields = join_short (whole row) plain.short in
    let all = length-append (join_with_byte 44 (whole row)) (10 ∷ []) in
    let eight = plain.eight in
    omega (arith, fields, all, eight)

bytes_few : (rows : List Fields) → AllByRecursion (λ r. IsPlainRow (whole r)) rows → length (lines_of rows) ≤ 161 * length rows
bytes_few [] all = omega arith
bytes_few (row ∷ rows) all = omega (arith, line_short row all.0, bytes_few rows all.1, length-append (line row) (lines_of rows))

-- rows
flat_few : {X Y : Type 0} (f : X → List Y) (most : ℕ) → ((x : X) → length (f x) ≤ most) → (xs : List X) → length (flat_map f xs) ≤ most * length xs
flat_few f most h [] = omega arith
flat_few f most h (x ∷ xs) =
    let more : most * suc (length xs) ≡ most + most * length xs = omega arith in
    omega (arith, h x, flat_few f most h xs, length-append (f x) (flat_map f xs), more)

one_at_most : {Y : Type 0} (none : Bool) (y : Y) → length (if none then [] else y ∷ []) ≤ 1
one_at_most true y = omega arith
one_at_most false y = omega arith

change_few : (name : List ℕ) (own limit : Option ℕ) → length (capacity_change name own limit) ≤ 1
change_few name None limit = omega arith
change_few name (Some own) None = omega arith
change_few name (Some own) (Some limit) = one_at_most (own == limit) _

capacities_few : (q : Posed) → length (capacity_rows q) ≤ 1 * length (range_with_len 0 (length q.asked.elements))
capacities_few q = flat_few (capacity_row q) 1 (λ e. change_few (element_name q.pipeline e) (capacity_of (element_at q.pipeline e)) (capacity_of (rules.element q.asked e))) (range_with_len 0 (length q.asked.elements))

zip_few : {X Y : Type 0} (xs : List X) (ys : List Y) → length (zip xs ys) ≤ length xs
zip_few [] ys = omega arith
zip_few (x ∷ xs) [] = omega arith
zip_few (x ∷ xs) (y ∷ ys) = omega (arith, zip_few xs ys)

prices_few : (names : List (List ℕ)) (prices : List (Pair (Lex 8) (Lex 8))) → length (price_rows names prices) ≤ 8 * length names
prices_few names prices =
    let all = flat_few (λ e. element_rows e.0 (class_words e.1)) 8
    (λ e. flat_few (λ k. level_row e.0 (k + 1) ((class_words e.1).0 k) ((class_words e.1).1 k)) 1
    (λ k. one_at_most ((unsigned_abs ((class_words e.1).0 k) == 0) && (unsigned_abs ((class_words e.1).1 k) == 0)) _) (range_with_len 0 classes)) (zip names prices) in
    omega (arith, all, zip_few names prices)

-- numbers that increase below a bound are no more than it
at_least : (xs : List ℕ) → IsStrictlyIncreasing xs → (k : ℕ) → k < length xs → k ≤ slice_index xs k
at_least xs rising zero low = omega arith
at_least xs rising (suc k) low =
    let next : suc k ≡ k + 1 = omega arith in
    let more : slice_index xs k < slice_index xs (suc k) = ap' next (rising k (omega (arith, low))) in
    omega (arith, at_least xs rising k (omega (arith, low)), more)
  where
    ap' : suc k ≡ k + 1 → slice_index xs k < slice_index xs (k + 1) → slice_index xs k < slice_index xs (suc k)
    ap' e h = rw e h

rising_few : (xs : List ℕ) (count : ℕ) → IsStrictlyIncreasing xs → ((k : ℕ) → k < length xs → slice_index xs k < count) → length xs ≤ count
rising_few xs count rising below = go (length xs) refl
  where
    go : (n : ℕ) → length xs ≡ n → length xs ≤ count
    go zero e = omega arith
    go (suc n) e = omega (arith, e, at_least xs rising n (omega (arith, e)), below n (omega (arith, e)))

module _ (p : Posting) (m : IsPublishable p) where
  bumped_few : length p.bumped ≤ length p.question.asked.lines
  bumped_few =
      let long = length-map p.bumped (λ b. b.0) in
      let few = rising_few (map (λ b. b.0) p.bumped) (length p.question.asked.lines) m.rising (λ k low. below k (omega (arith, low, long))) in
      omega (arith, long, few)
    where
      below : (k : ℕ) → k < length p.bumped → slice_index (map (λ b. b.0) p.bumped) k < length p.question.asked.lines
      below k low = rw (get_or-map (λ (b : ℕ × ℕ). b.0) p.bumped k (0, 0) 0 low) (m.lines k (0, 0) low)

  rows_few : length (question_rows p.question ++ taken_rows p) ≤ 200_000
  rows_few =
      let parts : length (part_rows p.question.pipeline) ≡ length (elements_of p.question.pipeline) = length-map (range_with_len 0 (length (elements_of p.question.pipeline))) (part_row p.question.pipeline) ∙ length-range_with_len 0 (length (elements_of p.question.pipeline)) in
      let elements = length-elements p.question.pipeline in
      let names = length-names p.question.pipeline in
      let known = m.question.pipeline.known in
      let a = known.few_segments in
      let b = known.few_points in
      let c = known.few_pools in
      let named = known.named in
      let asked = elements_long p.question m.question in
      let capacities = capacities_few p.question in
      let range = length-range_with_len 0 (length p.question.asked.elements) in
      let lines : length (line_rows p.question) ≡ length p.question.asked.lines = length-map p.question.asked.lines (line_row p.question.pipeline) in
      let scheds : length (sched_rows p.schedule) ≡ length p.schedule = length-map (enumerate_from 1 p.schedule) sched_row ∙ length-enumerate_from 1 p.schedule in
      let prices = prices_few (names_of p.question.pipeline) p.prices in
      let bumped : length (bumped_rows p.bumped) ≡ length p.bumped = length-map p.bumped bumped_row in
      let few = m.question.known.few_lines in
      let one = length-append (question_rows p.question) (taken_rows p) in
      let two = length-append ((part_rows p.question.pipeline ++ head_row p.question ∷ []) ++ capacity_rows p.question) (line_rows p.question) in
      let three = length-append (part_rows p.question.pipeline ++ head_row p.question ∷ []) (capacity_rows p.question) in
      let four = length-append (part_rows p.question.pipeline) (head_row p.question ∷ []) in
      let five = length-append (sched_rows p.schedule ++ price_rows (names_of p.question.pipeline) p.prices) (bumped_rows p.bumped) in
      let six = length-append (sched_rows p.schedule) (price_rows (names_of p.question.pipeline) p.prices) in
      omega (arith, parts, elements, names, a, b, c, named, asked, capacities, range, lines, scheds, prices, bumped, bumped_few, m.scheduled, few, one, two, three, four, five, six)

  pub few_lines : length p.schedule < 10 ^ 18
  few_lines = omega (arith, m.scheduled, m.question.known.few_lines)

  -- the text is within the limits
  pub text_within : is_within (body_text p) ≡ true
  text_within =
      let plain = all_plain p m few_lines in
      let rows : length (records_of (body_text p)) ≡ length (question_rows p.question ++ taken_rows p) =
      ap (λ (l : List Fields). length l) (rows_are_records (question_rows p.question ++ taken_rows p) plain) ∙ length-map (question_rows p.question ++ taken_rows p) whole in
      let bytes = bytes_few (question_rows p.question ++ taken_rows p) plain in
      both (length (body_text p)) (length (records_of (body_text p))) (omega (arith, bytes, rows_few)) (omega (arith, rows, rows_few))
    where
      both : (n k : ℕ) → n ≤ MAX_BYTES → k ≤ MAX_ROWS → (nat_le n MAX_BYTES && nat_le k MAX_ROWS) ≡ true
      both n k a b = grind (arith, nat_tests)
