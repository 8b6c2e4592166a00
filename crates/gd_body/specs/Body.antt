-- The posting that a text says, and what reading and writing may answer.
use Rattle.std.specs.Prelude.{Bool, ◌&&◌, nat_le, nat_lt, length, if◌then◌else◌, ◌≡◌, ◌≢◌, ℕ, ◌-◌, ⊤, List, [], ◌∷◌, map, zip, drop, Option, Some, None, Result, Ok, Err}
use Rattle.std.specs.List.{list_all, range_with_len}
use Rattle.gd_cost.specs.declared.lex.Lex.{Lex}
use Rattle.gd_cost.specs.declared.pair.Pair.{Pair}
use Rattle.gd_system.specs.Pipeline.{Pipeline}
use Rattle.gd_question.specs.Posing.{Posed}
use Rattle.gd_board.specs.declared.posting.Posting.{Posting}
use Rattle.gd_text_part.specs.Rows.{◌>>=◌}
use Rattle.gd_text_part.specs.Csv.{records_of}
use Rattle.gd_text_part.specs.Texts.{rows_of}
use Rattle.gd_text_part.specs.declared.input.TheConstants.{MAX_BYTES}
use Rattle.gd_text_part.specs.declared.records.TheConstants.{MAX_ROWS}
use Rattle.gd_text_part.specs.declared.fault.RowFault.{RowFault}
use Rattle.gd_text_part.specs.declared.fault.TextFault.{TextFault}
use Rattle.gd_text_part.specs.declared.fault.TextFault.TheVariants as text_fault
use Rattle.gd_text_part.specs.declared.kind.Form.TheVariants as form
use Rattle.gd_text_part.specs.declared.row.Row.{Row}
use Rattle.gd_text_part.specs.declared.row.Row.TheVariants as row
use Rattle.gd_text.specs.Prices.{Table, eight, prices_of}
use Rattle.gd_text.specs.Values.{asked_of}
use Rattle.gd_body.specs.Rows.{body_text}
use Rattle.gd_body.specs.declared.fault.BodyFault.{BodyFault}
use Rattle.gd_body.specs.declared.fault.BodyFault.TheVariants as fault

-- an element's price in a table: its eight words, and its eight words of the spread
abbrev pub price_in : Table → ℕ → Pair (Lex 8) (Lex 8)
price_in t e = record { first = record { words = eight t.words e }; second = record { words = eight t.spreads e } }

-- the prices of all elements in a table
abbrev pub prices_in : Table → List (Pair (Lex 8) (Lex 8))
prices_in t = map (price_in t) (range_with_len 0 t.elements)

-- the lines of the `bumped` rows, counted from 0 here, each with what is taken from it
abbrev pub bumped_of : List Row → List (ℕ × ℕ)
bumped_of [] = []
bumped_of (row.Bumped line quantity ∷ rows) = (line - 1, quantity) ∷ bumped_of rows
bumped_of (r ∷ rows) = bumped_of rows

-- the posting of a question: its book, cycle and round are the question's
abbrev pub posting_about : Posed → List ℕ → List (Pair (Lex 8) (Lex 8)) → List (ℕ × ℕ) → Posting
posting_about q schedule prices bumped = record {
  book = q.book;
  cycle = q.cycle;
  round = q.round;
  question = q;
  schedule = schedule;
  prices = prices;
  bumped = bumped;
}

-- the prices that rows give for a pipeline, or the first refusal
abbrev pub tariffs_of : List Row → Pipeline → Result (List (Pair (Lex 8) (Lex 8))) TextFault
tariffs_of rows p = prices_of rows p >>= λ t. Ok (prices_in t)

abbrev pub posting_priced : List Row → Posed × List ℕ → Result Posting TextFault
posting_priced rows asked =
    tariffs_of rows asked.0.pipeline >>= λ prices. Ok (posting_about asked.0 asked.1 prices (bumped_of rows))

-- the posting that rows say, or the first refusal
abbrev pub posting_of : List Row → Result Posting TextFault
posting_of rows = asked_of rows >>= posting_priced rows

-- each number is below the one that follows
abbrev pub rises : List ℕ → Bool
rises numbers = list_all (λ pair. nat_lt pair.0 pair.1) (zip numbers (drop 1 numbers))

-- these lines are some of so many, and each comes before the one that follows
abbrev pub rises_within : ℕ → List (ℕ × ℕ) → Bool
rises_within count bumped = list_all (λ b. nat_lt b.0 count) bumped && rises (map (λ b. b.0) bumped)

-- the bumped lines are lines of the question, in rising order, each once
abbrev pub posting_found : Result Posting TextFault → Option Posting
posting_found (Ok p) = if rises_within (length p.question.asked.lines) p.bumped then Some p else None
posting_found (Err f) = None

abbrev pub posting_under : Result (List Row) RowFault → Option Posting
posting_under (Ok rows) = posting_found (posting_of rows)
posting_under (Err f) = None

-- the text has no more bytes and rows than a text may have
abbrev pub is_within : List ℕ → Bool
is_within text = nat_le (length text) MAX_BYTES && nat_le (length (records_of text)) MAX_ROWS

-- the posting that a text says; none where it is too long, its rows or what they build are refused, or bumped lines are none of the question's
abbrev pub posting_in : List ℕ → Option Posting
posting_in text = if is_within text then posting_under (rows_of form.Body text) else None

-- a fault of a text, of which only want of memory is told apart
abbrev pub fault_from : TextFault → BodyFault
fault_from text_fault.OutOfMemory = fault.OutOfMemory
fault_from f = fault.Damaged

-- What reading may answer: the posting that the text says, or that it says none; or that memory ran out.
abbrev pub Reads : List ℕ → Result Posting BodyFault → Type 0
Reads text (Ok p) = posting_in text ≡ Some p
Reads text (Err fault.Damaged) = posting_in text ≡ None
Reads text (Err fault.OutOfMemory) = ⊤

-- A body was written: it is the posting's text, which says this very posting.
pub record IsBody (p : Posting) (text : List ℕ) : Type 0 where
  pub written : text ≡ body_text p
  pub read_back : posting_in text ≡ Some p

-- No body was written: the posting's text does not say this posting; or memory ran out.
abbrev pub IsRefused : Posting → BodyFault → Type 0
IsRefused p fault.Damaged = posting_in (body_text p) ≢ Some p
IsRefused p fault.OutOfMemory = ⊤
