-- The calls of a gas day's text, each with the rows that stand before it.
use Rattle.std.specs.Prelude.{ℕ, ◌+◌, List, [], ◌∷◌, ◌++◌, length, Option, Some, None}
use Rattle.gd_text_part.specs.declared.row.EventRow.{EventRow}
use Rattle.gd_text_part.specs.declared.row.Row.{Row}
use Rattle.gd_text_part.specs.declared.row.Row.TheVariants as row

-- A call of the book: its group, which is all rows after the call before it, or from the beginning of the text; the
-- number of the first of them, or of the call itself where there is none; and what is called.
pub record Call : Type 0 where
  pub group : List Row
  pub first : ℕ
  pub event : EventRow

abbrev pub event_of : Row → Option EventRow
event_of (row.Event event) = Some event
event_of r = None

-- The calls of the rows that are left, where these rows, the first of them with this number, stand in the group of the
-- next call already.
abbrev pub calls_after : ℕ → List Row → List Row → List Call
calls_after first group [] = []
calls_after first group (row.Event event ∷ rows) =
    record { group = group; first = first; event = event } ∷ calls_after (first + length group + 1) [] rows
calls_after first group (r ∷ rows) = calls_after first (group ++ r ∷ []) rows

-- The calls of a text, in order.
abbrev pub calls_of : List Row → List Call
calls_of rows = calls_after 1 [] rows
