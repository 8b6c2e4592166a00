-- Where a book stands whose rows come line by line.
use Rattle.std.specs.Prelude.{◌≡◌, ℕ, ◌+◌, None, List, [], ◌∷◌, ◌++◌, length, map, Ok}
use Rattle.std.specs.List.{AllByRecursion}
use Rattle.gd_text_part.specs.Lines.{behind_opening, cut_at_commas, IsPlain}
use Rattle.gd_text_part.specs.declared.kind.Form.TheVariants as form
use Rattle.gd_text_part.specs.declared.order.Place.{Place}
use Rattle.gd_text_part.specs.declared.row.Row.{Row}
use Rattle.gd_serving.specs.Lines.{text_of_lines}
use Rattle.gd_live.specs.Calls.{IsAmongCalls}
use Rattle.gd_live.specs.Fronts.{front_from}
use Rattle.gd_day.specs.Calls.{event_of}
use Rattle.gd_machine.specs.Day.{Day}
use Rattle.gd_machine.specs.History.{History}

-- The rows that wait for their call: where rows stand behind them, the rows, and the bytes of their lines.
pub record Group : Type 0 where
  pub place : Place
  pub rows : List Row
  pub bytes : List ℕ

-- none waits
abbrev pub no_group : Group
no_group = record { place = behind_opening; rows = []; bytes = [] }

-- the bytes of the rows that wait, and those of a line behind them
abbrev pub with_line : Group → List ℕ → List ℕ
with_line g line = g.bytes ++ line ++ 10 ∷ []

-- how many rows and bytes a text may still have
pub record Room : Type 0 where
  pub rows : ℕ
  pub bytes : ℕ

-- The day and the history of the book, the rows that wait, how many rows came so far, and how much may still be kept.
pub record Stand : Type 0 where
  pub day : Day
  pub history : History
  pub group : Group
  pub number : ℕ
  pub room : Room

-- The rows that wait behind the row of this number are those of plain lines, and none of them is a call.
pub record IsGroup (number : ℕ) (g : Group) : Type 0 where
  pub lines : List (List ℕ)
  pub plain : AllByRecursion IsPlain lines
  pub bytes : g.bytes ≡ text_of_lines lines
  pub began : ℕ
  pub number_is : number ≡ began + length g.rows
  pub one_each : length lines ≡ length g.rows
  pub reads : front_from form.Day behind_opening began (map (cut_at_commas []) lines) ≡ Ok (g.rows, g.place)
  pub among : IsAmongCalls g.place
  pub wait : AllByRecursion (λ r. event_of r ≡ None) g.rows
