-- The blocks of an office's text.
use Rattle.std.specs.Prelude.{ℕ, ◌+◌, Bool, true, false, ◌&&◌, ◌||◌, List, [], ◌∷◌, ◌++◌, length, if◌then◌else◌}
use Rattle.gd_text_part.specs.declared.row.PipelineRow.TheVariants as pipeline
use Rattle.gd_text_part.specs.declared.row.Row.{Row}
use Rattle.gd_text_part.specs.declared.row.Row.TheVariants as row

-- A block: how many rows of the text stand before it, and its own.
pub record Block : Type 0 where
  pub before : ℕ
  pub rows : List Row

abbrev pub is_segment : Row → Bool
is_segment (row.Pipeline (pipeline.Segment name from to limit)) = true
is_segment r = false

-- A `day` or `carry` row, behind which a segment begins the next block.
abbrev pub is_head : Row → Bool
is_head (row.Day date zone book) = true
is_head (row.Carry key quantity) = true
is_head r = false

-- The blocks of the rows that are left, where these rows, so many before them, stand in the first of them already, one of
-- them a `day` or `carry` row or none.
abbrev pub blocks_after : ℕ → Bool → List Row → List Row → List Block
blocks_after before headed block [] = record { before = before; rows = block } ∷ []
blocks_after before headed block (r ∷ rows) =
    if headed && is_segment r
    then record { before = before; rows = block } ∷ blocks_after (before + length block) false (r ∷ []) rows
    else blocks_after before (headed || is_head r) (block ++ r ∷ []) rows

-- The blocks of a text, in order: each segment behind a `day` or `carry` row begins the next one.
abbrev pub blocks_of : List Row → List Block
blocks_of rows = blocks_after 0 false [] rows
