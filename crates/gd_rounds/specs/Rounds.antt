-- The rounds of a history, and the texts that say them.
use Rattle.std.specs.Prelude.{◌≡◌, ◌<◌, ◌≤◌, ℕ, Bool, true, false, List, ◌++◌, length, take, drop, slice_get, Option, Some, None, Ok, ⊤}
use Rattle.gd_machine.specs.declared.event.Event.{Event}
use Rattle.gd_machine.specs.declared.event.Event.TheVariants.{Publish, Declare}
use Rattle.gd_machine.specs.declared.reply.Reply.{Reply}
use Rattle.gd_machine.specs.Day.{Day}
use Rattle.gd_machine.specs.History.{History, cycle_of, is_frozen, round_of}
use Rattle.gd_machine.specs.Asking.{question}
use Rattle.gd_system.specs.Pipeline.{names_of}
use Rattle.gd_question.specs.Posing.{Posed}
use Rattle.gd_certificate.specs.Checked.{Certificate, IsRight}
use Rattle.gd_certificate.specs.Cutting.{Members}
use Rattle.gd_certificate.specs.Explained.{IsShaped, Cuts}
use Rattle.gd_text_part.specs.Texts.{IsWithin, rows_of}
use Rattle.gd_text_part.specs.declared.kind.Form.TheVariants as form
use Rattle.gd_text_part.specs.declared.row.Row.{Row}
use Rattle.gd_text.specs.Members.{members_of}
use Rattle.gd_text.specs.Prices.{Table, ArePrices, prices_of}
use Rattle.gd_text.specs.Values.{asked_of, question_of}
use Rattle.gd_body.specs.Rows.{lines_of, price_rows, question_rows, sched_rows}
use Rattle.gd_replies.specs.Lines as replies
use Rattle.gd_replies.specs.Replies.{cut_rows}

-- ---- rounds

-- this round, or any where none is named
abbrev pub IsNamed : Option ℕ → ℕ → Type 0
IsNamed None n = ⊤
IsNamed (Some round) n = n ≡ round

-- Behind these events the cycle is frozen, in the round that is named.
pub record IsFrozenIn (h : History) (cycle : ℕ) (round : Option ℕ) : Type 0 where
  pub frozen : is_frozen h ≡ true
  pub cycle_is : cycle_of h ≡ cycle
  pub round_is : IsNamed round (round_of h)

-- what answers a frozen question: its schedule is published, or it is declared to have none
abbrev pub answers : Event → Bool
answers (Publish moment certificate) = true
answers (Declare moment round cut) = true
answers event = false

-- What comes next answers the question that is frozen; or nothing came yet.
abbrev pub IsAnswered : Option (Event × Reply) → Type 0
IsAnswered (Some p) = answers p.0 ≡ true
IsAnswered None = ⊤

-- At this place of a history the round ends that is named: it is frozen behind so many events, and what comes next answers it.
abbrev pub EndsRound : History → ℕ → Option ℕ → ℕ → Type 0
EndsRound h cycle round place = IsFrozenIn (take place h) cycle round × IsAnswered (slice_get h place)

-- No event left the cycle frozen in the round that is named.
abbrev pub WasNeverFrozen : History → ℕ → Option ℕ → Type 0
WasNeverFrozen h cycle round = (place : ℕ) → ¬ (IsFrozenIn (take place h) cycle round)

-- ---- texts

-- the bytes of a question
abbrev pub question_text : Posed → List ℕ
question_text q = lines_of (question_rows q)

-- those of a certificate: its question, the quantity of each line, and the prices
abbrev pub certificate_text : Certificate → List ℕ
certificate_text c =
    question_text c.question ++ lines_of (sched_rows c.schedule) ++ lines_of (price_rows (names_of c.question.pipeline) c.prices)

-- those of a question with a set: the rows of a cut behind the first, which tells its excess
abbrev pub cut_text : Posed → Members → List ℕ
cut_text q cut = question_text q ++ replies.lines_of (drop 1 (cut_rows q.pipeline cut 0))

-- The text asks this question, as `solve` takes it.
pub record Asks (q : Posed) (text : List ℕ) : Type 0 where
  pub within : IsWithin text
  pub rows : List Row
  pub reads : rows_of form.Solve text ≡ Ok rows
  pub asks : question_of rows ≡ Ok q
  pub written : text ≡ question_text q

-- The text asks the question of a certificate, and offers its schedule and prices, as `check best` takes them.
pub record Certifies (c : Certificate) (text : List ℕ) : Type 0 where
  pub within : IsWithin text
  pub rows : List Row
  pub reads : rows_of form.CheckBest text ≡ Ok rows
  pub asks : asked_of rows ≡ Ok (c.question, c.schedule)
  pub table : Table
  pub prices : prices_of rows c.question.pipeline ≡ Ok table
  pub are : ArePrices table c.prices
  pub written : text ≡ certificate_text c

-- The text asks this question, and names a set, as `check cut` takes it.
pub record Refutes (q : Posed) (cut : Members) (text : List ℕ) : Type 0 where
  pub within : IsWithin text
  pub rows : List Row
  pub reads : rows_of form.CheckCut text ≡ Ok rows
  pub asks : question_of rows ≡ Ok q
  pub names : members_of rows q.pipeline ≡ Ok cut
  pub written : text ≡ cut_text q cut

-- The text says the frozen question with what comes next: the schedule that is published, and prices that show it best; or the
-- set that shows that there is none; or the question alone.
abbrev pub Says : Day → History → Option (Event × Reply) → List ℕ → Type 0
Says day h None text = Asks (question day h) text
Says day h (Some (Publish moment certificate, reply)) text =
    (certificate.question ≡ question day h) × IsRight certificate × Certifies certificate text
Says day h (Some (Declare moment round cut, reply)) text =
    IsShaped (question day h).pipeline cut × Cuts (question day h) cut × Refutes (question day h) cut text
Says day h (Some p) text = ⊥

-- The text says the last round that is named: behind no more events another such one ends.
pub record SaysRound (day : Day) (h : History) (cycle : ℕ) (round : Option ℕ) (text : List ℕ) : Type 0 where
  pub place : ℕ
  pub within : place ≤ length h
  pub ends : EndsRound h cycle round place
  pub last : (later : ℕ) → place < later → later ≤ length h → ¬ (EndsRound h cycle round later)
  pub says : Says day (take place h) (slice_get h place) text
