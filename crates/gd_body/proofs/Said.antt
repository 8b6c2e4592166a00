-- The rows that the text of a posting is read as.
use Rattle.std.specs.Prelude.{ℕ, ◌+◌, ◌==◌, ◌&&◌, ℤ, unsigned_abs, if◌then◌else◌}
use Rattle.std.specs.Prelude.{List, [], ◌∷◌, ◌++◌, length, map, zip, Option, Some, None}
use Rattle.std.specs.List.{flat_map, enumerate_from, range_with_len}
use Rattle.gd_rules.specs.Limits.{classes}
use Rattle.gd_rules.specs.Question as rules
use Rattle.gd_rules.specs.Question.Element.{Segment as segment, Receipt as receipt, Delivery as delivery, Pool as pool}
use Rattle.gd_cost.specs.Parts.{class_words}
use Rattle.gd_cost.specs.declared.lex.Lex.{Lex}
use Rattle.gd_cost.specs.declared.pair.Pair.{Pair}
use Rattle.gd_units.specs.declared.service.Kind.TheVariants as way
use Rattle.gd_system.specs.Pipeline.{Pipeline, elements_of, names_of, capacity_of}
use Rattle.gd_system.specs.Route.{element_at}
use Rattle.gd_question.specs.Posing.{Posed}
use Rattle.gd_board.specs.declared.posting.Posting.{Posting}
use Rattle.gd_text_part.specs.declared.row.Row.{Row}
use Rattle.gd_text_part.specs.declared.row.Row.TheVariants as row
use Rattle.gd_text_part.specs.declared.row.PipelineRow.TheVariants as pipeline
use Rattle.gd_text_part.specs.declared.row.QuestionRow.TheVariants as question
use Rattle.gd_body.specs.Rows.{place_name, element_name, operator_name}

-- a segment, point or pool by its name and its operator's
abbrev pub part_said : Pipeline → List ℕ → List ℕ → rules.Element → Row
part_said p name operator (segment from to capacity) = row.Pipeline (pipeline.Segment name (place_name p from) (place_name p to) capacity)
part_said p name operator (receipt place capacity) = row.Pipeline (pipeline.Point name way.Receipt (place_name p place) operator capacity)
part_said p name operator (delivery place capacity) = row.Pipeline (pipeline.Point name way.Delivery (place_name p place) operator capacity)
part_said p name operator (pool place) = row.Pipeline (pipeline.Pool name (place_name p place) operator)

abbrev pub part_at : Pipeline → ℕ → Row
part_at p e = part_said p (element_name p e) (operator_name p e) (element_at p e)

abbrev pub parts_said : Pipeline → List Row
parts_said p = map (part_at p) (range_with_len 0 (length (elements_of p)))

abbrev pub head_said : Posed → Row
head_said q = row.Question (question.Head q.book q.cycle q.round)

-- a capacity in force that is not the pipeline's own
abbrev pub capacity_said : List ℕ → Option ℕ → Option ℕ → List Row
capacity_said name (Some own) (Some limit) = if own == limit then [] else row.Question (question.Capacity name limit) ∷ []
capacity_said name None limit = []
capacity_said name (Some own) None = []

abbrev pub capacity_at : Posed → ℕ → List Row
capacity_at q e =
    capacity_said (element_name q.pipeline e) (capacity_of (element_at q.pipeline e)) (capacity_of (rules.element q.asked e))

abbrev pub capacities_said : Posed → List Row
capacities_said q = flat_map (capacity_at q) (range_with_len 0 (length q.asked.elements))

abbrev pub line_said : Pipeline → rules.Line → Row
line_said p l = row.Question (question.Line (element_name p l.origin) (element_name p l.dest) l.class l.floor l.ceiling)

abbrev pub lines_said : Posed → List Row
lines_said q = map (line_said q.pipeline) q.asked.lines

abbrev pub question_said : Posed → List Row
question_said q = parts_said q.pipeline ++ head_said q ∷ [] ++ capacities_said q ++ lines_said q

abbrev pub scheds_said : List ℕ → List Row
scheds_said schedule = map (λ s. row.Sched s.0 s.1) (enumerate_from 1 schedule)

-- the two words of an element's price at a level; nothing where both are 0
abbrev pub level_said : List ℕ → ℕ → ℤ → ℤ → List Row
level_said name level word spread =
    if (unsigned_abs word == 0) && (unsigned_abs spread == 0) then [] else row.Price name level word spread ∷ []

abbrev pub price_said : List ℕ → (ℕ → ℤ) × (ℕ → ℤ) → List Row
price_said name price = flat_map (λ k. level_said name (k + 1) (price.0 k) (price.1 k)) (range_with_len 0 classes)

abbrev pub prices_said : List (List ℕ) → List (Pair (Lex 8) (Lex 8)) → List Row
prices_said names prices = flat_map (λ e. price_said e.0 (class_words e.1)) (zip names prices)

abbrev pub bumped_said : List (ℕ × ℕ) → List Row
bumped_said bumped = map (λ b. row.Bumped (b.0 + 1) b.1) bumped

abbrev pub rows_said : Posting → List Row
rows_said p =
    question_said p.question ++ (scheds_said p.schedule ++ prices_said (names_of p.question.pipeline) p.prices ++ bumped_said p.bumped)
