-- What holds of each kind of row holds of all rows that say a posting.
use Rattle.std.proofs.Common.{ℕ, ℤ, ◌+◌, ◌==◌, ◌&&◌, Bool, true, false, List, [], ◌∷◌, ◌++◌, length, map, Option, Some, None, if◌then◌else◌}
use Rattle.std.specs.Prelude.{unsigned_abs, zip}
use Rattle.std.specs.List.{AllByRecursion, flat_map, range_with_len, enumerate_from}
use Rattle.gd_cost.specs.Parts.{class_words}
use Rattle.gd_cost.specs.declared.lex.Lex.{Lex}
use Rattle.gd_cost.specs.declared.pair.Pair.{Pair}
use Rattle.gd_rules.specs.Limits.{classes}
use Rattle.gd_rules.specs.Question as rules
use Rattle.gd_rules.specs.Question.Element.{Segment as segment, Receipt as receipt, Delivery as delivery, Pool as pool}
use Rattle.gd_system.specs.Pipeline.{Pipeline, elements_of, capacity_of}
use Rattle.gd_system.specs.Route.{element_at}
use Rattle.gd_question.specs.Posing.{Posed}
use Rattle.gd_text_part.specs.declared.row.Row.{Row}
use Rattle.gd_text_part.specs.declared.row.Row.TheVariants as row
use Rattle.gd_text_part.specs.declared.row.PipelineRow.{PipelineRow}
use Rattle.gd_text_part.specs.declared.row.QuestionRow.{QuestionRow}
use Rattle.gd_text_part.specs.declared.row.QuestionRow.TheVariants as question
use Rattle.gd_body.specs.Rows.{element_name, operator_name}
use Rattle.gd_body.proofs.Said.{part_said, part_at, parts_said, head_said, capacity_said, capacity_at, capacities_said, line_said, lines_said, scheds_said, level_said, price_said, prices_said, bumped_said}

module _ (P : Row → Type 0) where
  pub each_append : (a b : List Row) → AllByRecursion P a → AllByRecursion P b → AllByRecursion P (a ++ b)
  each_append [] b one two = two
  each_append (r ∷ a) b one two = (one.0, each_append a b one.1 two)

  each_map : {Y : Type 0} (f : Y → Row) → ((y : Y) → P (f y)) → (ys : List Y) → AllByRecursion P (map f ys)
  each_map f h [] = tt
  each_map f h (y ∷ ys) = (h y, each_map f h ys)

  each_flat_map : {Y : Type 0} (f : Y → List Row) → ((y : Y) → AllByRecursion P (f y)) → (ys : List Y) → AllByRecursion P (flat_map f ys)
  each_flat_map f h [] = tt
  each_flat_map f h (y ∷ ys) = each_append (f y) (flat_map f ys) (h y) (each_flat_map f h ys)

  each_unless : (none : Bool) (r : Row) → P r → AllByRecursion P (if none then [] else r ∷ [])
  each_unless true r h = tt
  each_unless false r h = (h, tt)

  part_each : ((x : PipelineRow) → P (row.Pipeline x)) → (p : Pipeline) (name operator : List ℕ) (x : rules.Element) → P (part_said p name operator x)
  part_each h p name operator (segment from to capacity) = h _
  part_each h p name operator (receipt place capacity) = h _
  part_each h p name operator (delivery place capacity) = h _
  part_each h p name operator (pool place) = h _

  pub parts_each : ((x : PipelineRow) → P (row.Pipeline x)) → (p : Pipeline) → AllByRecursion P (parts_said p)
  parts_each h p = each_map (part_at p) (λ e. part_each h p (element_name p e) (operator_name p e) (element_at p e)) (range_with_len 0 (length (elements_of p)))

  capacity_each : ((x : QuestionRow) → P (row.Question x)) → (name : List ℕ) (own limit : Option ℕ) → AllByRecursion P (capacity_said name own limit)
  capacity_each h name None limit = tt
  capacity_each h name (Some own) None = tt
  capacity_each h name (Some own) (Some limit) = each_unless (own == limit) (row.Question (question.Capacity name limit)) (h _)

  -- the head, the capacities and the lines
  pub asks_each : ((x : QuestionRow) → P (row.Question x)) → (q : Posed) → AllByRecursion P ((head_said q ∷ [] ++ capacities_said q) ++ lines_said q)
  asks_each h q =
      each_append (head_said q ∷ [] ++ capacities_said q) (lines_said q)
      (h _, each_flat_map (capacity_at q) (λ e. capacity_each h (element_name q.pipeline e) (capacity_of (element_at q.pipeline e)) (capacity_of (rules.element q.asked e))) (range_with_len 0 (length q.asked.elements)))
      (each_map (line_said q.pipeline) (λ l. h _) q.asked.lines)

  pub scheds_each : ((line quantity : ℕ) → P (row.Sched line quantity)) → (schedule : List ℕ) → AllByRecursion P (scheds_said schedule)
  scheds_each h schedule = each_map (λ x. row.Sched x.0 x.1) (λ x. h x.0 x.1) (enumerate_from 1 schedule)

  pub prices_each : ((name : List ℕ) (level : ℕ) (word spread : ℤ) → P (row.Price name level word spread)) → (names : List (List ℕ)) (prices : List (Pair (Lex 8) (Lex 8))) → AllByRecursion P (prices_said names prices)
  prices_each h names prices =
      each_flat_map (λ e. price_said e.0 (class_words e.1))
      (λ e. each_flat_map (λ k. level_said e.0 (k + 1) ((class_words e.1).0 k) ((class_words e.1).1 k))
      (λ k. each_unless ((unsigned_abs ((class_words e.1).0 k) == 0) && (unsigned_abs ((class_words e.1).1 k) == 0)) _ (h e.0 (k + 1) ((class_words e.1).0 k) ((class_words e.1).1 k)))
      (range_with_len 0 classes))
      (zip names prices)

  pub bumped_each : ((line quantity : ℕ) → P (row.Bumped line quantity)) → (bumped : List (ℕ × ℕ)) → AllByRecursion P (bumped_said bumped)
  bumped_each h bumped = each_map (λ x. row.Bumped (x.0 + 1) x.1) (λ x. h (x.0 + 1) x.1) bumped
