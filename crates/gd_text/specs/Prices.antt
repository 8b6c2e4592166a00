-- The prices that the `price` rows of a text give.
use Rattle.std.specs.Prelude.{◌≡◌, ℕ, ◌+◌, ◌-◌, ◌*◌, ℤ, pos, Bool, true, false, if◌then◌else◌, List, [], ◌∷◌, length, set, replicate, slice_get, get_or, Option, Some, None, Result, Ok, Err}
use Rattle.gd_rules.specs.Limits.{classes}
use Rattle.gd_cost.specs.Made.{list_of, first_of, second_of}
use Rattle.gd_cost.specs.declared.lex.Lex.{Lex}
use Rattle.gd_cost.specs.declared.pair.Pair.{Pair}
use Rattle.gd_system.specs.Pipeline.{Pipeline, elements_of, element_number}
use Rattle.gd_text_part.specs.declared.fault.Cause.TheVariants as cause
use Rattle.gd_text_part.specs.declared.fault.TextFault.{TextFault}
use Rattle.gd_text_part.specs.declared.fault.TextFault.TheVariants as fault
use Rattle.gd_text_part.specs.declared.row.Row.{Row}
use Rattle.gd_text_part.specs.declared.row.Row.TheVariants as row
use Rattle.gd_text.specs.Building.{built_from}

-- Two words for each of so many elements at each of the eight classes, element by element, and which of them were given.
pub record Table : Type 0 where
  pub elements : ℕ
  pub words : List ℤ
  pub spreads : List ℤ
  pub given : List Bool

-- Words that no row gives are 0.
abbrev pub no_prices : ℕ → Table
no_prices n = record {
  elements = n;
  words = replicate (classes * n) (pos 0);
  spreads = replicate (classes * n) (pos 0);
  given = replicate (classes * n) false;
}

-- Where the words of an element at a class stand.
abbrev pub place : ℕ → ℕ → ℕ
place e class = classes * e + (class - 1)

-- The table after the words of an element at a class are given, or a refusal where they are there.
abbrev pub given_at : ℕ → Table → ℕ → ℕ → ℤ → ℤ → Result Table TextFault
given_at n t e class word spread =
    if get_or t.given (place e class) false then Err (fault.Row n cause.Duplicate)
    else Ok (record t {
      words = set t.words (place e class) word;
      spreads = set t.spreads (place e class) spread;
      given = set t.given (place e class) true;
    })

abbrev pub price_at : ℕ → Table → Option ℕ → ℕ → ℤ → ℤ → Result Table TextFault
price_at n t None class word spread = Err (fault.Row n cause.UnknownElement)
price_at n t (Some e) class word spread = given_at n t e class word spread

-- The table after row n: a `price` row gives two words, and other rows say nothing of prices.
abbrev pub price_step : Pipeline → ℕ → Table → Row → Result Table TextFault
price_step p n t (row.Price element class word spread) = price_at n t (element_number p element) class word spread
price_step p n t r = Ok t

-- The prices of all rows, the first of them row n, for the elements of a pipeline; or the first refusal.
abbrev pub prices_from : ℕ → List Row → Pipeline → Result Table TextFault
prices_from n rows p = built_from (price_step p) n (no_prices (length (elements_of p))) rows

-- The same of a text's rows, which are counted from 1.
abbrev pub prices_of : List Row → Pipeline → Result Table TextFault
prices_of rows p = prices_from 1 rows p

-- The word of an element at class k + 1.
abbrev pub word_at : List ℤ → ℕ → ℕ → ℤ
word_at words e k = get_or words (classes * e + k) (pos 0)

-- The eight words of an element.
abbrev pub eight : List ℤ → ℕ → List ℤ
eight words e =
    get_or words (classes * e) (pos 0) ∷ word_at words e 1 ∷ word_at words e 2 ∷ word_at words e 3
    ∷ word_at words e 4 ∷ word_at words e 5 ∷ word_at words e 6 ∷ word_at words e 7 ∷ []

-- The price of an element: its eight words, and its eight words of the spread.
abbrev pub IsPrice : Table → ℕ → Pair (Lex 8) (Lex 8) → Type 0
IsPrice t e p = (list_of (first_of p) ≡ eight t.words e) × (list_of (second_of p) ≡ eight t.spreads e)

-- A list of the prices of all elements.
pub record ArePrices (t : Table) (prices : List (Pair (Lex 8) (Lex 8))) : Type 0 where
  pub long : length prices ≡ t.elements
  pub each : (e : ℕ) (p : Pair (Lex 8) (Lex 8)) → slice_get prices e ≡ Some p → IsPrice t e p
