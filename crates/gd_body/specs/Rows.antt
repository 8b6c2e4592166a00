-- The rows of a posting, and how they are printed.
use Rattle.std.specs.Prelude.{ℕ, ◌+◌, ◌-◌, ◌==◌, ◌&&◌, ℤ, unsigned_abs, codes, if◌then◌else◌}
use Rattle.std.specs.Prelude.{List, [], ◌∷◌, ◌++◌, length, map, replicate, zip, slice_get, Option, Some, None, unwrap_or}
use Rattle.std.specs.List.{flat_map, join_with_byte, enumerate_from, range_with_len}
use Rattle.std.specs.Fmt.{decimal, signed_decimal}
use Rattle.gd_rules.specs.Limits.{classes}
use Rattle.gd_rules.specs.Question as rules
use Rattle.gd_rules.specs.Question.Element.{Segment as segment, Receipt as receipt, Delivery as delivery, Pool as pool}
use Rattle.gd_cost.specs.Parts.{class_words}
use Rattle.gd_cost.specs.declared.lex.Lex.{Lex}
use Rattle.gd_cost.specs.declared.pair.Pair.{Pair}
use Rattle.gd_system.specs.Pipeline.{Pipeline, elements_of, names_of, operator_at, capacity_of}
use Rattle.gd_system.specs.Route.{element_at}
use Rattle.gd_question.specs.Posing.{Posed}
use Rattle.gd_board.specs.declared.posting.Posting.{Posting}
use Rattle.gd_text_part.specs.declared.row.TheConstants.{FIELD_COUNT}

-- a row is a list of fields, and those behind its last are empty
abbrev pub Fields : Type 0
Fields = List (List ℕ)

-- the fields, and empty ones behind them up to a whole row
abbrev pub whole : Fields → Fields
whole fields = fields ++ replicate (FIELD_COUNT - length fields) []

-- the fields with commas between, and a line feed
abbrev pub line : Fields → List ℕ
line fields = join_with_byte 44 (whole fields) ++ 10 ∷ []

-- the bytes of rows, one after the other
abbrev pub lines_of : List Fields → List ℕ
lines_of rows = flat_map line rows

abbrev pub place_name : Pipeline → ℕ → List ℕ
place_name p place = unwrap_or (slice_get p.places place) []

abbrev pub element_name : Pipeline → ℕ → List ℕ
element_name p e = unwrap_or (slice_get (names_of p) e) []

abbrev pub operator_name : Pipeline → ℕ → List ℕ
operator_name p e = unwrap_or (operator_at p e) []

abbrev pub segment_fields : List ℕ → List ℕ → List ℕ → ℕ → Fields
segment_fields name from to capacity = codes "segment" ∷ name ∷ from ∷ to ∷ decimal capacity ∷ []

abbrev pub point_fields : List ℕ → List ℕ → List ℕ → List ℕ → ℕ → Fields
point_fields name kind place operator capacity = codes "point" ∷ name ∷ kind ∷ place ∷ operator ∷ decimal capacity ∷ []

abbrev pub pool_fields : List ℕ → List ℕ → List ℕ → Fields
pool_fields name place operator = codes "pool" ∷ name ∷ place ∷ operator ∷ []

-- a segment, point or pool with its own capacity, by its name and its operator's
abbrev pub part_fields : Pipeline → List ℕ → List ℕ → rules.Element → Fields
part_fields p name operator (segment from to capacity) = segment_fields name (place_name p from) (place_name p to) capacity
part_fields p name operator (receipt place capacity) = point_fields name (codes "receipt") (place_name p place) operator capacity
part_fields p name operator (delivery place capacity) = point_fields name (codes "delivery") (place_name p place) operator capacity
part_fields p name operator (pool place) = pool_fields name (place_name p place) operator

abbrev pub part_row : Pipeline → ℕ → Fields
part_row p e = part_fields p (element_name p e) (operator_name p e) (element_at p e)

-- the pipeline: segments, then points, then pools, which is the order of their numbers
abbrev pub part_rows : Pipeline → List Fields
part_rows p = map (part_row p) (range_with_len 0 (length (elements_of p)))

-- the head of a question
abbrev pub head_row : Posed → Fields
head_row q = codes "question" ∷ q.book ∷ decimal q.cycle ∷ decimal q.round ∷ []

-- a capacity in force that is not the pipeline's own
abbrev pub capacity_change : List ℕ → Option ℕ → Option ℕ → List Fields
capacity_change name (Some own) (Some limit) =
    if own == limit then [] else (codes "capacity" ∷ name ∷ decimal limit ∷ []) ∷ []
capacity_change name None limit = []
capacity_change name (Some own) None = []

abbrev pub capacity_row : Posed → ℕ → List Fields
capacity_row q e =
    capacity_change (element_name q.pipeline e) (capacity_of (element_at q.pipeline e)) (capacity_of (rules.element q.asked e))

-- the capacities in force that are not the pipeline's own, by element
abbrev pub capacity_rows : Posed → List Fields
capacity_rows q = flat_map (capacity_row q) (range_with_len 0 (length q.asked.elements))

abbrev pub line_row : Pipeline → rules.Line → Fields
line_row p l =
    codes "line" ∷ element_name p l.origin ∷ element_name p l.dest ∷ decimal l.class ∷ decimal l.floor ∷ decimal l.ceiling ∷ []

-- the lines of the question
abbrev pub line_rows : Posed → List Fields
line_rows q = map (line_row q.pipeline) q.asked.lines

abbrev pub sched_row : ℕ × ℕ → Fields
sched_row line = codes "sched" ∷ decimal line.0 ∷ decimal line.1 ∷ []

-- the quantity of each line, lines counted from 1
abbrev pub sched_rows : List ℕ → List Fields
sched_rows schedule = map sched_row (enumerate_from 1 schedule)

-- a word of the spread, empty where it is 0
abbrev pub spread_field : ℤ → List ℕ
spread_field spread = if unsigned_abs spread == 0 then [] else signed_decimal spread

-- the two words of an element's price at a level
abbrev pub words_row : List ℕ → ℕ → ℤ → ℤ → Fields
words_row name level word spread = codes "price" ∷ name ∷ decimal level ∷ signed_decimal word ∷ spread_field spread ∷ []

-- the same; no row where both are 0
abbrev pub level_row : List ℕ → ℕ → ℤ → ℤ → List Fields
level_row name level word spread =
    if (unsigned_abs word == 0) && (unsigned_abs spread == 0) then []
    else words_row name level word spread ∷ []

-- an element's price at levels 1 to 8, whose words stand at 0 to 7
abbrev pub element_rows : List ℕ → (ℕ → ℤ) × (ℕ → ℤ) → List Fields
element_rows name price = flat_map (λ k. level_row name (k + 1) (price.0 k) (price.1 k)) (range_with_len 0 classes)

-- the price of each element, by its name
abbrev pub price_rows : List (List ℕ) → List (Pair (Lex 8) (Lex 8)) → List Fields
price_rows names prices = flat_map (λ e. element_rows e.0 (class_words e.1)) (zip names prices)

abbrev pub bumped_row : ℕ × ℕ → Fields
bumped_row line = codes "bumped" ∷ decimal (line.0 + 1) ∷ decimal line.1 ∷ []

-- the bumped lines, counted from 1, each with what is taken from it
abbrev pub bumped_rows : List (ℕ × ℕ) → List Fields
bumped_rows bumped = map bumped_row bumped

-- the pipeline and the question about it
abbrev pub question_rows : Posed → List Fields
question_rows q = part_rows q.pipeline ++ head_row q ∷ [] ++ capacity_rows q ++ line_rows q

-- the schedule, the prices that show it best, and the lines that it bumps
abbrev pub taken_rows : Posting → List Fields
taken_rows p = sched_rows p.schedule ++ price_rows (names_of p.question.pipeline) p.prices ++ bumped_rows p.bumped

-- the text of a posting
abbrev pub body_text : Posting → List ℕ
body_text p = lines_of (question_rows p.question ++ taken_rows p)
