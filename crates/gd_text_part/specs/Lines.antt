-- Rows that come line by line, behind the opening of a gas day.
use Rattle.std.specs.Prelude.{◌≡◌, ◌≤◌, ℕ, Bool, true, false, ◌==◌, ◌||◌, nat_le, List, [], ◌∷◌, ◌++◌, length, if◌then◌else◌}
use Rattle.std.specs.Prelude.{Option, Some, None, Result, Err}
use Rattle.std.specs.List.{AllByRecursion}
use Rattle.gd_text_part.specs.Kinds.{kind_in, stage_of}
use Rattle.gd_text_part.specs.Offices.{no_blocks}
use Rattle.gd_text_part.specs.Places.{row_of}
use Rattle.gd_text_part.specs.Rows.{field}
use Rattle.gd_text_part.specs.declared.fault.Cause.TheVariants as cause
use Rattle.gd_text_part.specs.declared.fault.RowFault.{RowFault}
use Rattle.gd_text_part.specs.declared.kind.RowKind.{RowKind}
use Rattle.gd_text_part.specs.declared.kind.RowKind.TheVariants as kind
use Rattle.gd_text_part.specs.declared.kind.Form.TheVariants as form
use Rattle.gd_text_part.specs.declared.order.Place.{Place}
use Rattle.gd_text_part.specs.declared.row.Row.{Row}
use Rattle.gd_text_part.specs.declared.waiting.Waiting.TheVariants as waiting

-- where rows stand behind the opening of a gas day, and again behind each call: rows of a group or a call may come, and
-- none waits
abbrev pub behind_opening : Place
behind_opening =
    record { stage = stage_of kind.Sched; headed = true; scheds = 0; waiting = waiting.Nothing; blocks = no_blocks }

-- a line without the one carriage return at its end
abbrev pub bare : List ℕ → List ℕ
bare [] = []
bare (c ∷ []) = if c == 13 then [] else c ∷ []
bare (c ∷ d ∷ line) = c ∷ bare (d ∷ line)

-- the fields of a line, cut at its commas, behind the field at hand
abbrev pub cut_at_commas : List ℕ → List ℕ → List (List ℕ)
cut_at_commas field [] = field ∷ []
cut_at_commas field (c ∷ line) = if c == 44 then field ∷ cut_at_commas [] line else cut_at_commas (field ++ c ∷ []) line

-- a line that isn't empty, without a quotation mark, a carriage return or a line feed
pub record IsPlain (line : List ℕ) : Type 0 where
  pub some : 1 ≤ length line
  pub plain : AllByRecursion (λ c. (c == 34 || (c == 13 || c == 10)) ≡ false) line

-- whether a byte is a quotation mark, a carriage return or a line feed
abbrev pub is_mark : ℕ → Bool
is_mark c = c == 34 || (c == 13 || c == 10)

-- whether a line has one of them
abbrev pub is_marked : List ℕ → Bool
is_marked [] = false
is_marked (c ∷ line) = is_mark c || is_marked line

-- the fields of a line that has none of them
abbrev pub fields_in : List ℕ → Option (List (List ℕ))
fields_in line = if is_marked line then None else Some (cut_at_commas [] line)

abbrev pub row_in : Place → ℕ → Option (List (List ℕ)) → Result (Row × Place) RowFault
row_in place n None = Err (record { row = n; cause = cause.FieldCount })
row_in place n (Some fields) = row_of form.Day place n fields

-- the row that a bare line is as row n of a gas day and where the rows stand after it, or the first fault: a line with a
-- quotation mark or a line break within it has no eight fields
abbrev pub line_of : Place → ℕ → List ℕ → Result (Row × Place) RowFault
line_of place n line = row_in place n (fields_in line)

-- whether rows of a kind stand behind the opening of a gas day: calls, and the rows of their groups
abbrev pub is_kind_of_calls : Option RowKind → Bool
is_kind_of_calls None = false
is_kind_of_calls (Some k) = nat_le (stage_of kind.Sched) (stage_of k)

-- whether the first field of a line names such a kind
abbrev pub is_of_calls : List ℕ → Bool
is_of_calls line = is_kind_of_calls (kind_in form.Day (field (cut_at_commas [] (bare line)) 1))
