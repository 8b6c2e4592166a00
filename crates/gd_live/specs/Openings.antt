-- What is read of a text that opens a gas day and goes on by the lines of its calls.
use Rattle.std.specs.Prelude.{◌≡◌, ◌≤◌, ◌<◌, ◌+◌, ℕ, Bool, true, false, List, ◌∷◌, ◌++◌, length, MatchBool}
use Rattle.std.specs.List.{AllByRecursion}
use Rattle.gd_text_part.specs.Lines.{is_of_calls}
use Rattle.gd_text_part.specs.declared.input.TheConstants.{MAX_BYTES}
use Rattle.gd_serving.specs.Lines.{HasNoEnd, text_of_lines}

-- the text is whole lines, and none of them is of calls
pub record IsOfOpening (text : List ℕ) : Type 0 where
  pub lines : List (List ℕ)
  pub bytes : text ≡ text_of_lines lines
  pub whole : AllByRecursion HasNoEnd lines
  pub none_of_calls : AllByRecursion (λ line. is_of_calls line ≡ false) lines

-- bytes begin with a whole line of calls
pub record BeginsCalls (bytes : List ℕ) : Type 0 where
  pub line : List ℕ
  pub rest : List ℕ
  pub parts : bytes ≡ line ++ 10 ∷ rest
  pub whole : HasNoEnd line
  pub of_calls : is_of_calls line ≡ true

-- The whole lines of an opening, and the bytes behind them: they begin with a line of calls, or the text has ended and with it
-- a line that is unfinished, if any.
pub record IsOpening (text begun : List ℕ) (has_ended : Bool) : Type 0 where
  pub opening : IsOfOpening text
  pub few : length text ≤ MAX_BYTES
  pub behind : MatchBool has_ended (HasNoEnd begun) (BeginsCalls begun)

-- the whole lines of an opening, and the beginning of a line that may be of the opening too
pub record GoesOn (text begun : List ℕ) : Type 0 where
  pub opening : IsOfOpening text
  pub begins : HasNoEnd begun
  pub few : length text + length begun ≤ MAX_BYTES

-- The bytes begin with the whole lines of an opening and the beginning of a line, which are too many.
pub record HasLongOpening (all : List ℕ) : Type 0 where
  pub text : List ℕ
  pub begun : List ℕ
  pub rest : List ℕ
  pub parts : all ≡ (text ++ begun) ++ rest
  pub opening : IsOfOpening text
  pub begins : HasNoEnd begun
  pub many : MAX_BYTES < length text + length begun
