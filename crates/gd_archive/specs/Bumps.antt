-- Which lines a posting bumps, beside the posting of the cycle before.
use Rattle.std.specs.Prelude.{◌≡◌, ◌≢◌, ℕ, ◌+◌, ◌==◌, ◌&&◌, nat_lt, List, filter, length, map, Option, Some, None, if◌then◌else◌}
use Rattle.std.specs.List.{range_with_len}
use Rattle.std.specs.Str.{bytes_eq}
use Rattle.sqlite.specs.Order.{Row, column}
use Rattle.gd_rules.specs.Bounds.{bumped}
use Rattle.gd_rules.specs.Question.{line}
use Rattle.gd_rules.specs.Schedule.{quantity}
use Rattle.gd_board.specs.declared.posting.Posting.{Posting}
use Rattle.gd_archive.specs.Soundness.{count_of, posting_of, text_of}
use Rattle.gd_archive.specs.declared.bumps.Bumps.{Bumps}
use Rattle.gd_archive.specs.declared.bumps.Bumps.TheVariants.{Right, Wrong, Unchecked}

-- By how much a line is bumped where the former posting's schedule was in effect. The ceiling of a question's line is what is confirmed of it.
abbrev pub taken : Posting → Posting → ℕ → ℕ
taken former p i = bumped p.cycle (quantity former.schedule i) (line p.question.asked i).ceiling (quantity p.schedule i)

-- the lines that are bumped, in order, each with by how much
abbrev pub taken_lines : Posting → Posting → List (ℕ × ℕ)
taken_lines former p = filter (λ b. nat_lt 0 b.1) (map (λ i. (i, taken former p i)) (range_with_len 0 (length p.question.asked.lines)))

-- The posting that a row keeps, where the row is of the same book and of the cycle before. (Rows rise by book and cycle, so no row but the
-- one before a posting's own can be that.)
abbrev pub former_of : Option Row → Posting → Option Posting
former_of None p = None
former_of (Some row) p = if bytes_eq (text_of (column row 0)) p.book && (count_of (column row 1) + 1 == p.cycle) then posting_of row else None

-- The posting with which the bumped lines of one are compared that stands behind this row. In Timely nothing is bumped, whatever was
-- before.
abbrev pub compared_with : Option Row → Posting → Option Posting
compared_with before p = if p.cycle == 1 then Some p else former_of before p

-- what is found of the bumped lines that a posting tells
abbrev pub HasBumps : Option Posting → Posting → Bumps → Type 0
HasBumps None p found = found ≡ Unchecked
HasBumps (Some former) p Right = p.bumped ≡ taken_lines former p
HasBumps (Some former) p Wrong = p.bumped ≢ taken_lines former p
HasBumps (Some former) p Unchecked = ⊥
