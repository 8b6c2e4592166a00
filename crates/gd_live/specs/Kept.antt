-- What is kept of a book's calls: the bytes of whole lines, and those of what was told of them.
use Rattle.std.specs.Prelude.{◌≡◌, ◌⊎◌, ℕ, List, [], ◌∷◌, ◌++◌, map, Ok}
use Rattle.std.specs.List.{AllByRecursion}
use Rattle.gd_text_part.specs.Lines.{behind_opening, cut_at_commas, IsPlain}
use Rattle.gd_text_part.specs.declared.kind.Form.TheVariants as form
use Rattle.gd_text_part.specs.declared.row.EventRow.{EventRow}
use Rattle.gd_text_part.specs.declared.row.Row.{Row}
use Rattle.gd_text_part.specs.declared.row.Row.TheVariants as row
use Rattle.gd_serving.specs.Lines.{text_of_lines}
use Rattle.gd_live.specs.Fronts.{front_from}
use Rattle.gd_day.specs.Calls.{calls_of}
use Rattle.gd_day.specs.Groups.{AllPass}
use Rattle.gd_machine.specs.Day.{Day}
use Rattle.gd_machine.specs.History.{History}
use Rattle.gd_replies.specs.Lines.{lines_of}
use Rattle.gd_replies.specs.declared.reply.Reply.{Reply}
use Rattle.gd_course.specs.Course.{Runs}

-- the last of the rows, if there is one, is a call
abbrev pub EndsWithCall : List Row → Type 0
EndsWithCall rows = (rows ≡ []) ⊎ ((front : List Row) × (event : EventRow) × (rows ≡ front ++ row.Event event ∷ []))

-- The bytes are plain lines. Behind the opening of this day their rows are calls, each with its group, whose prices and set
-- can be made; a run of them on a book with this history tells these bytes, and leaves this history.
pub record AreCalls (day : Day) (h : History) (rows replies : List ℕ) (after : History) : Type 0 where
  pub lines : List (List ℕ)
  pub plain : AllByRecursion IsPlain lines
  pub bytes : rows ≡ text_of_lines lines
  pub read : List Row
  pub reads : front_from form.Day behind_opening 0 (map (cut_at_commas []) lines) ≡ Ok (read, behind_opening)
  pub whole : EndsWithCall read
  pub passes : AllPass day.holdings.pipeline (calls_of read)
  pub told : List Reply
  pub runs : Runs day h (calls_of read) told after
  pub replies_are : replies ≡ lines_of told
