-- What the blocks of an office's text say of their gas days.
use Rattle.std.specs.Prelude.{ℕ, ◌+◌, Bool, List, [], ◌∷◌, ◌++◌, length, take, Option, Some, None, option_map, Result, Ok, Err, if◌then◌else◌}
use Rattle.std.specs.List.{list_any}
use Rattle.gd_system.specs.declared.BuildFault.TheVariants as build
use Rattle.gd_text_part.specs.Kinds.{is_text}
use Rattle.gd_text_part.specs.Rows.{◌>>=◌}
use Rattle.gd_text_part.specs.declared.fault.Cause.TheVariants as cause
use Rattle.gd_text_part.specs.declared.fault.TextFault.{TextFault}
use Rattle.gd_text_part.specs.declared.fault.TextFault.TheVariants as fault
use Rattle.gd_text_part.specs.declared.row.Row.{Row}
use Rattle.gd_text_part.specs.declared.row.Row.TheVariants as row
use Rattle.gd_text.specs.Building.{result_as}
use Rattle.gd_day.specs.Opening.{Opened, opened_of}
use Rattle.gd_day.specs.declared.text.DayText.{DayText}
use Rattle.gasday_office.specs.Blocks.{Block, blocks_of}

-- What a book is opened with, as values.
abbrev pub opened : DayText → Opened
opened d = record { date = d.date; zone = d.zone; book = d.book; holdings = d.contracts; carry = d.carry.items }

-- A fault of a block behind so many rows, in a text that ends with this one: at its row of the text, and what is not there
-- at one row past the last.
abbrev pub block_fault : ℕ → ℕ → TextFault → TextFault
block_fault last before (fault.Row n cause.Missing) = fault.Row (last + 1) cause.Missing
block_fault last before (fault.Row n (cause.Build build.NoSegment)) = fault.Row (last + 1) (cause.Build build.NoSegment)
block_fault last before (fault.Row n c) = fault.Row (before + n) c
block_fault last before f = f

-- The number of the first `day` row, where these rows begin with this one, and the book that it names.
abbrev pub head_at : ℕ → List Row → Option (ℕ × List ℕ)
head_at n [] = None
head_at n (row.Day date zone book ∷ rows) = option_map (λ name. (n, name)) book
head_at n (r ∷ rows) = head_at (n + 1) rows

-- One of these days has a book of this name.
abbrev pub is_taken : List Opened → List ℕ → Bool
is_taken days book = list_any (λ d. is_text d.book book) days

-- A block whose book, named by the `day` row of this number, is there already: a refusal of a row up to that one, or of it.
abbrev pub repeated : ℕ → List Row → Result Opened TextFault
repeated n rows = opened_of (take n rows) >>= λ day. Err (fault.Row n cause.Duplicate)

abbrev pub opened_under : List Opened → List Row → Option (ℕ × List ℕ) → Result Opened TextFault
opened_under days rows None = opened_of rows
opened_under days rows (Some head) =
    if is_taken days head.1
    then repeated head.0 rows
    else opened_of rows

-- What the rows of a block say of its gas day, where these days have their books already. A book that is there is refused
-- at the `day` row that names it, where no row up to there is refused.
abbrev pub opened_beside : List Opened → List Row → Result Opened TextFault
opened_beside days rows = opened_under days rows (head_at 1 rows)

-- The same of a block in a text of so many rows.
abbrev pub opened_in : ℕ → List Opened → Block → Result Opened TextFault
opened_in last days b = result_as (block_fault last b.before) (opened_beside days b.rows)

-- The gas days of blocks behind these, or the first refusal.
abbrev pub opened_after : ℕ → List Opened → List Block → Result (List Opened) TextFault
opened_after last days [] = Ok days
opened_after last days (b ∷ blocks) = opened_in last days b >>= λ day. opened_after last (days ++ day ∷ []) blocks

-- The gas days of a text by block, in order, or the first refusal.
abbrev pub days_of : List Row → Result (List Opened) TextFault
days_of rows = opened_after (length rows) [] (blocks_of rows)
