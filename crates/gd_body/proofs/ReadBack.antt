-- The rows that say a posting are read back as it.
use Rattle.std.proofs.Common.{◌≡◌, ℕ, ◌+◌, ◌-◌, ◌*◌, ◌<◌, List, [], ◌∷◌, ◌++◌, length, get_or, map, Some, None, Result, Ok, refl, sym, ap, ap₂, ◌∙◌, if◌then◌else◌, arith, append-nil}
use Rattle.std.specs.List.{AllByRecursion, enumerate_from}
use Rattle.std.proofs.lemmas.List.{append_assoc}
use Rattle.std.proofs.lemmas.Option.{unwrap_or-slice_get}
use Rattle.gd_cost.specs.declared.lex.Lex.{Lex}
use Rattle.gd_cost.specs.declared.pair.Pair.{Pair}
use Rattle.gd_system.specs.Pipeline.{elements_of, names_of, element_number}
use Rattle.gd_system.proofs.Slots.{length-names, length-elements}
use Rattle.gd_question.specs.Posing.{Posed}
use Rattle.gd_board.specs.declared.posting.Posting.{Posting}
use Rattle.gd_text_part.specs.Rows.{◌>>=◌}
use Rattle.gd_text_part.specs.Texts.{rows_of}
use Rattle.gd_text_part.specs.declared.fault.TextFault.{TextFault}
use Rattle.gd_text_part.specs.declared.kind.Form.TheVariants as form
use Rattle.gd_text_part.specs.declared.row.Row.{Row}
use Rattle.gd_text_part.specs.declared.row.Row.TheVariants as row
use Rattle.gd_text.specs.Building.{built_from}
use Rattle.gd_text.specs.Prices.{Table, no_prices, price_step, prices_of}
use Rattle.gd_text.specs.Values.{with_schedule, asked_of, quantities_of}
use Rattle.gd_body.specs.Body.{bumped_of, posting_about, prices_in, tariffs_of, posting_priced, posting_of, posting_found, posting_under, posting_in}
use Rattle.gd_body.specs.Rows.{body_text}
use Rattle.gd_body.specs.Publishable.{IsPublishable}
use Rattle.gd_body.proofs.Said.{parts_said, head_said, capacities_said, lines_said, scheds_said, prices_said, bumped_said, rows_said}
use Rattle.gd_body.proofs.Passing.{Passes, passed, all_passed}
use Rattle.gd_body.proofs.SaidRows.{parts_each, asks_each, scheds_each, prices_each, bumped_each}
use Rattle.gd_body.proofs.QuestionAgain.{question_again, element_found}
use Rattle.gd_body.proofs.PricesAgain.{Brings, prices_given, prices_held}
use Rattle.gd_body.proofs.Rising.{rises_decides}
use Rattle.gd_body.proofs.RowsTold.{rows_told}
use Rattle.gd_body.proofs.Sizes.{few_lines, text_within}

-- a row of which nothing is kept
record Skips {A : Type 0} (f : List Row → List A) (r : Row) : Type 0 where
  over : (rows : List Row) → f (r ∷ rows) ≡ f rows

skipped : {A : Type 0} (f : List Row → List A) (rows rest : List Row) → AllByRecursion (Skips f) rows → f (rows ++ rest) ≡ f rest
skipped f [] rest all = refl
skipped f (r ∷ rows) rest all = all.0.over (rows ++ rest) ∙ skipped f rows rest all.1

quantities_said : (schedule : List ℕ) (k : ℕ) (rest : List Row) → quantities_of rest ≡ [] → quantities_of (map (λ s. row.Sched s.0 s.1) (enumerate_from k schedule) ++ rest) ≡ schedule
quantities_said [] k rest none = none
quantities_said (q ∷ schedule) k rest none = ap (λ l. q ∷ l) (quantities_said schedule (k + 1) rest none)

taken_off : (b : ℕ × ℕ) → (b.0 + 1 - 1, b.1) ≡ b
taken_off b = let same : b.0 + 1 - 1 ≡ b.0 = omega arith in ap (λ (n : ℕ). (n, b.1)) same

bumped_told : (bumped : List (ℕ × ℕ)) → bumped_of (bumped_said bumped) ≡ bumped
bumped_told [] = refl
bumped_told (b ∷ bumped) = ap₂ (λ (x : ℕ × ℕ) (l : List (ℕ × ℕ)). x ∷ l) (taken_off b) (bumped_told bumped)

in_parts : (a b c d e f g : List Row) → (((a ++ b) ++ c) ++ d) ++ ((e ++ f) ++ g) ≡ a ++ (((b ++ c) ++ d) ++ (e ++ (f ++ g)))
in_parts a b c d e f g = simp append_assoc

module _ (p : Posting) (m : IsPublishable p) where
  abbrev asks : List Row
  asks = (head_said p.question ∷ [] ++ capacities_said p.question) ++ lines_said p.question

  abbrev priced : List Row
  priced = prices_said (names_of p.question.pipeline) p.prices

  split : rows_said p ≡ parts_said p.question.pipeline ++ (((head_said p.question ∷ [] ++ capacities_said p.question) ++ lines_said p.question) ++ (scheds_said p.schedule ++ (prices_said (names_of p.question.pipeline) p.prices ++ bumped_said p.bumped)))
  split = in_parts (parts_said p.question.pipeline) (head_said p.question ∷ []) (capacities_said p.question) (lines_said p.question) (scheds_said p.schedule) (prices_said (names_of p.question.pipeline) p.prices) (bumped_said p.bumped)

  -- the schedule
  no_quantity : quantities_of (priced ++ bumped_said p.bumped) ≡ []
  no_quantity =
      skipped quantities_of priced (bumped_said p.bumped) (prices_each (Skips quantities_of) (λ name level word spread. record { over = λ rows. refl }) (names_of p.question.pipeline) p.prices)
      ∙ ap quantities_of (sym (append-nil (bumped_said p.bumped)))
      ∙ skipped quantities_of (bumped_said p.bumped) [] (bumped_each (Skips quantities_of) (λ line quantity. record { over = λ rows. refl }) p.bumped)

  schedule_told : quantities_of (rows_said p) ≡ p.schedule
  schedule_told =
      ap quantities_of split
      ∙ skipped quantities_of (parts_said p.question.pipeline) (asks ++ (scheds_said p.schedule ++ (priced ++ bumped_said p.bumped))) (parts_each (Skips quantities_of) (λ x. record { over = λ rows. refl }) p.question.pipeline)
      ∙ skipped quantities_of asks (scheds_said p.schedule ++ (priced ++ bumped_said p.bumped)) (asks_each (Skips quantities_of) (λ x. record { over = λ rows. refl }) p.question)
      ∙ quantities_said p.schedule 1 (priced ++ bumped_said p.bumped) no_quantity

  -- the bumped lines
  lines_told : bumped_of (rows_said p) ≡ p.bumped
  lines_told =
      ap bumped_of split
      ∙ skipped bumped_of (parts_said p.question.pipeline) (asks ++ (scheds_said p.schedule ++ (priced ++ bumped_said p.bumped))) (parts_each (Skips bumped_of) (λ x. record { over = λ rows. refl }) p.question.pipeline)
      ∙ skipped bumped_of asks (scheds_said p.schedule ++ (priced ++ bumped_said p.bumped)) (asks_each (Skips bumped_of) (λ x. record { over = λ rows. refl }) p.question)
      ∙ skipped bumped_of (scheds_said p.schedule) (priced ++ bumped_said p.bumped) (scheds_each (Skips bumped_of) (λ line quantity. record { over = λ rows. refl }) p.schedule)
      ∙ skipped bumped_of priced (bumped_said p.bumped) (prices_each (Skips bumped_of) (λ name level word spread. record { over = λ rows. refl }) (names_of p.question.pipeline) p.prices)
      ∙ bumped_told p.bumped

  -- the prices
  names_long : length (elements_of p.question.pipeline) ≡ length (names_of p.question.pipeline)
  names_long = omega (arith, length-names p.question.pipeline, length-elements p.question.pipeline, m.question.pipeline.known.named)

  numbered : (e : ℕ) → e < length (names_of p.question.pipeline) → element_number p.question.pipeline (get_or (names_of p.question.pipeline) e []) ≡ Some e
  numbered e low =
      ap (element_number p.question.pipeline) (sym (unwrap_or-slice_get (names_of p.question.pipeline) e []))
      ∙ element_found p.question.pipeline m.question.pipeline e (omega (arith, low, names_long))

  abbrev step : ℕ → Table → Row → Result Table TextFault
  step = price_step p.question.pipeline

  abbrev none : Table
  none = no_prices (length (elements_of p.question.pipeline))

  -- the number of the first row of a price
  abbrev first : ℕ
  first = 1 + length (parts_said p.question.pipeline) + length asks + length (scheds_said p.schedule)

  long : length p.prices ≡ length (names_of p.question.pipeline)
  long = omega (arith, m.priced, names_long)

  given : Brings p.question.pipeline (names_of p.question.pipeline) p.prices numbered (8 * length (names_of p.question.pipeline)) first none priced
  given = prices_given p.question.pipeline (names_of p.question.pipeline) p.prices numbered first (length (elements_of p.question.pipeline)) names_long long

  before_prices : built_from step 1 none (rows_said p) ≡ built_from step first none (priced ++ bumped_said p.bumped)
  before_prices =
      ap (built_from step 1 none) split
      ∙ passed step (parts_said p.question.pipeline) (asks ++ (scheds_said p.schedule ++ (priced ++ bumped_said p.bumped))) 1 none (parts_each (Passes step) (λ x. record { over = λ n t. refl }) p.question.pipeline)
      ∙ passed step asks (scheds_said p.schedule ++ (priced ++ bumped_said p.bumped)) (1 + length (parts_said p.question.pipeline)) none (asks_each (Passes step) (λ x. record { over = λ n t. refl }) p.question)
      ∙ passed step (scheds_said p.schedule) (priced ++ bumped_said p.bumped) (1 + length (parts_said p.question.pipeline) + length asks) none
      (scheds_each (Passes step) (λ line quantity. record { over = λ n t. refl }) p.schedule)

  table_told : prices_of (rows_said p) p.question.pipeline ≡ Ok given.table
  table_told =
      before_prices ∙ given.same (bumped_said p.bumped)
      ∙ all_passed step (bumped_said p.bumped) given.number given.table (bumped_each (Passes step) (λ line quantity. record { over = λ n t. refl }) p.bumped)

  tariffs_told : tariffs_of (rows_said p) p.question.pipeline ≡ Ok p.prices
  tariffs_told =
      ap (λ (o : Result Table TextFault). o >>= λ t. Ok (prices_in t)) table_told
      ∙ ap (λ (l : List (Pair (Lex 8) (Lex 8))). Ok l) (sym (prices_held p.question.pipeline (names_of p.question.pipeline) p.prices numbered given.table given.is long m.prices))

  -- the posting
  about_is : posting_about p.question p.schedule p.prices p.bumped ≡ p
  about_is =
      ap (λ (b : List ℕ). record (posting_about p.question p.schedule p.prices p.bumped) { book = b }) (sym m.book)
      ∙ ap (λ (c : ℕ). record (posting_about p.question p.schedule p.prices p.bumped) { book = p.book; cycle = c }) (sym m.cycle)
      ∙ ap (λ (r : ℕ). record (posting_about p.question p.schedule p.prices p.bumped) { book = p.book; cycle = p.cycle; round = r }) (sym m.round)

  posting_said : posting_of (rows_said p) ≡ Ok p
  posting_said =
      let asked : asked_of (rows_said p) ≡ Ok (p.question, p.schedule) =
      ap (λ (o : Result Posed TextFault). o >>= with_schedule (rows_said p)) (question_again p m) ∙ ap (λ (s : List ℕ). Ok (p.question, s)) schedule_told in
      ap (λ (o : Result (Posed × List ℕ) TextFault). o >>= posting_priced (rows_said p)) asked
      ∙ ap (λ (o : Result (List (Pair (Lex 8) (Lex 8))) TextFault). o >>= λ prices. Ok (posting_about p.question p.schedule prices (bumped_of (rows_said p)))) tariffs_told
      ∙ ap (λ (l : List (ℕ × ℕ)). Ok (posting_about p.question p.schedule p.prices l)) lines_told
      ∙ ap (λ (x : Posting). Ok x) about_is

  found : posting_found (posting_of (rows_said p)) ≡ Some p
  found =
      ap posting_found posting_said
      ∙ ap (λ v. if v then Some p else None) ((rises_decides (length p.question.asked.lines) p.bumped).1 (m.lines, m.rising))

-- the text of a posting says it
pub reads_back : (p : Posting) → IsPublishable p → posting_in (body_text p) ≡ Some p
reads_back p m =
    ap (λ v. if v then posting_under (rows_of form.Body (body_text p)) else None) (text_within p m)
    ∙ ap posting_under (rows_told p m (few_lines p m))
    ∙ found p m
