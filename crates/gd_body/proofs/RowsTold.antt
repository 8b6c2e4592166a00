-- A posting's text is read as the rows that say it.
use Rattle.std.proofs.Common.{◌≡◌, ◌<◌, ◌^◌, true, false, List, [], ◌∷◌, ◌++◌, length, map, Ok, sym, ap, ◌∙◌, arith, append-nil}
use Rattle.std.specs.List.{AllByRecursion, AllZip}
use Rattle.std.proofs.lemmas.List.{append_assoc, map-append}
use Rattle.gd_system.specs.Pipeline.{names_of}
use Rattle.gd_board.specs.declared.posting.Posting.{Posting}
use Rattle.gd_text_part.specs.Texts.{rows_of, rows_from}
use Rattle.gd_text_part.specs.Places.{start}
use Rattle.gd_text_part.specs.declared.kind.Form.TheVariants as form
use Rattle.gd_text_part.specs.declared.row.Row.{Row}
use Rattle.gd_body.proofs.Plain.{IsPlainRow}
use Rattle.gd_body.specs.Publishable.{IsPublishable}
use Rattle.gd_body.specs.Rows.{Fields, whole, part_rows, head_row, capacity_rows, line_rows, question_rows, sched_rows, price_rows, bumped_rows, taken_rows, body_text}
use Rattle.gd_body.proofs.Said.{parts_said, head_said, capacities_said, lines_said, scheds_said, prices_said, bumped_said, rows_said}
use Rattle.gd_body.proofs.PlainRows.{rows_are_records}
use Rattle.gd_body.proofs.RowGroups.{plain_rows, plain_append}
use Rattle.gd_body.proofs.RowsStand.{Says, Follows, Starts, stage_read, stage_starts, head_starts, head_plain, scheds_follow, scheds_plain, follows_lower, starts_lower, none_left}
use Rattle.gd_body.proofs.PartsSaid.{parts_say}
use Rattle.gd_body.proofs.QuestionSaid.{capacities_say, lines_say, prices_say, bumped_say}

flat : {A : Type 0} (a b c d e f g : List A) → (((a ++ b) ++ c) ++ d) ++ ((e ++ f) ++ g) ≡ a ++ (b ++ (c ++ (d ++ (e ++ (f ++ (g ++ []))))))
flat a b c d e f g = simp (append_assoc, append-nil)

mapped : (a b c d e f g : List Fields) → map whole ((((a ++ b) ++ c) ++ d) ++ ((e ++ f) ++ g)) ≡ (((map whole a ++ map whole b) ++ map whole c) ++ map whole d) ++ ((map whole e ++ map whole f) ++ map whole g)
mapped a b c d e f g = simp map-append

module _ (p : Posting) (m : IsPublishable p) (few : length p.schedule < 10 ^ 18) where
  prices_said_here : AllZip (Says true 7) (price_rows (names_of p.question.pipeline) p.prices) (prices_said (names_of p.question.pipeline) p.prices)
  prices_said_here = prices_say (names_of p.question.pipeline) p.prices m.question.pipeline.names m.prices

  bumped_said_here : AllZip (Says true 8) (bumped_rows p.bumped) (bumped_said p.bumped)
  bumped_said_here = bumped_say p.bumped (length p.question.asked.lines) m.question.known.few_lines m.lines m.bumped

  -- each row has plain fields
  pub all_plain : AllByRecursion (λ r. IsPlainRow (whole r)) (question_rows p.question ++ taken_rows p)
  all_plain =
      plain_append (question_rows p.question) (taken_rows p)
      (plain_append ((part_rows p.question.pipeline ++ head_row p.question ∷ []) ++ capacity_rows p.question) (line_rows p.question)
      (plain_append (part_rows p.question.pipeline ++ head_row p.question ∷ []) (capacity_rows p.question)
      (plain_append (part_rows p.question.pipeline) (head_row p.question ∷ []) (plain_rows false 1 _ _ (parts_say p.question.pipeline m.question.pipeline))
      (head_plain p.question.book p.question.cycle p.question.round m.question.book m.question.cycle.1 m.question.round.1, tt))
      (plain_rows true 4 _ _ (capacities_say p.question m.question)))
      (plain_rows true 5 _ _ (lines_say p.question m.question)))
      (plain_append (sched_rows p.schedule ++ price_rows (names_of p.question.pipeline) p.prices) (bumped_rows p.bumped)
      (plain_append (sched_rows p.schedule) (price_rows (names_of p.question.pipeline) p.prices) (scheds_plain p.schedule 0 m.schedule (omega arith)) (plain_rows true 7 _ _ prices_said_here))
      (plain_rows true 8 _ _ bumped_said_here))

  bumped_read : Follows true 8 (map whole (bumped_rows p.bumped) ++ []) (bumped_said p.bumped ++ [])
  bumped_read = stage_read true 8 (bumped_rows p.bumped) (bumped_said p.bumped) [] [] bumped_said_here (none_left 8)

  prices_read : Follows true 7 (map whole (price_rows (names_of p.question.pipeline) p.prices) ++ (map whole (bumped_rows p.bumped) ++ [])) (prices_said (names_of p.question.pipeline) p.prices ++ (bumped_said p.bumped ++ []))
  prices_read = stage_read true 7 _ _ _ _ prices_said_here (follows_lower true 7 8 _ _ (omega arith) bumped_read)

  scheds_read : Starts true 5 (map whole (sched_rows p.schedule) ++ (map whole (price_rows (names_of p.question.pipeline) p.prices) ++ (map whole (bumped_rows p.bumped) ++ [])))
      (scheds_said p.schedule ++ (prices_said (names_of p.question.pipeline) p.prices ++ (bumped_said p.bumped ++ [])))
  scheds_read = scheds_follow p.schedule _ _ m.schedule few (follows_lower true 6 7 _ _ (omega arith) prices_read)

  all_read : Starts false 1
      (map whole (part_rows p.question.pipeline) ++ (map whole (head_row p.question ∷ []) ++ (map whole (capacity_rows p.question) ++ (map whole (line_rows p.question)
      ++ (map whole (sched_rows p.schedule) ++ (map whole (price_rows (names_of p.question.pipeline) p.prices) ++ (map whole (bumped_rows p.bumped) ++ [])))))))
      (parts_said p.question.pipeline ++ ((head_said p.question ∷ []) ++ (capacities_said p.question ++ (lines_said p.question
      ++ (scheds_said p.schedule ++ (prices_said (names_of p.question.pipeline) p.prices ++ (bumped_said p.bumped ++ [])))))))
  all_read =
      stage_starts false 1 _ _ _ _ (parts_say p.question.pipeline m.question.pipeline)
      (head_starts p.question.book p.question.cycle p.question.round _ _ m.question.book m.question.cycle m.question.round
      (stage_starts true 4 _ _ _ _ (capacities_say p.question m.question)
      (starts_lower true 4 5 _ _ (omega arith) (stage_starts true 5 _ _ _ _ (lines_say p.question m.question) scheds_read))))

  pub rows_told : rows_of form.Body (body_text p) ≡ Ok (rows_said p)
  rows_told =
      ap (rows_from form.Body start 0) (
      rows_are_records (question_rows p.question ++ taken_rows p) all_plain
      ∙ mapped (part_rows p.question.pipeline) (head_row p.question ∷ []) (capacity_rows p.question) (line_rows p.question) (sched_rows p.schedule) (price_rows (names_of p.question.pipeline) p.prices) (bumped_rows p.bumped)
      ∙ flat (map whole (part_rows p.question.pipeline)) (map whole (head_row p.question ∷ [])) (map whole (capacity_rows p.question)) (map whole (line_rows p.question)) (map whole (sched_rows p.schedule))
      (map whole (price_rows (names_of p.question.pipeline) p.prices)) (map whole (bumped_rows p.bumped))
      )
      ∙ all_read.read 0 0 (omega arith)
      ∙ ap (λ (l : List Row). Ok l) (sym (flat (parts_said p.question.pipeline) (head_said p.question ∷ []) (capacities_said p.question) (lines_said p.question) (scheds_said p.schedule)
      (prices_said (names_of p.question.pipeline) p.prices) (bumped_said p.bumped)))
