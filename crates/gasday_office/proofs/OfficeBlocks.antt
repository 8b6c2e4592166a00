-- A small office's text: its blocks, what their books are opened with, and its faults.
use Rattle.std.proofs.Common.{◌≡◌, ℕ, List, [], ◌∷◌, ◌++◌, length, refl, Ok, Err}
use Rattle.std.specs.Prelude.{map, Some, codes}
use Rattle.gd_rules.specs.Lines.{Key}
use Rattle.gd_text_part.specs.Rows.{◌>>=◌}
use Rattle.gd_text_part.specs.Dates.{YearMonthDay}
use Rattle.gd_text_part.specs.declared.fault.Cause.{Cause}
use Rattle.gd_text_part.specs.declared.fault.Cause.TheVariants as cause
use Rattle.gd_text_part.specs.declared.fault.TextFault.TheVariants as fault
use Rattle.gd_text_part.specs.declared.row.EventRow.TheVariants as event
use Rattle.gd_text_part.specs.declared.row.OfficeRow.TheVariants as office
use Rattle.gd_text_part.specs.declared.row.PipelineRow.TheVariants as pipeline
use Rattle.gd_text_part.specs.declared.row.Row.{Row}
use Rattle.gd_text_part.specs.declared.row.Row.TheVariants as row
use Rattle.gd_system.specs.declared.BuildFault.TheVariants as build
use Rattle.gd_text.specs.Building.{built_from}
use Rattle.gd_day.specs.Opening.{Opened}
use Rattle.gasday_office.specs.Blocks.{blocks_of}
use Rattle.gasday_office.specs.Days.{days_of}

abbrev today : YearMonthDay
today = record { year = 2026; month = 3; day = 8 }

abbrev segment : Row
segment = row.Pipeline (pipeline.Segment (codes "S1") (codes "A") (codes "B") 100)

abbrev branch : Row
branch = row.Pipeline (pipeline.Segment (codes "S2") (codes "B") (codes "C") 100)

abbrev head : List ℕ → Row
head book = row.Day today (codes "UTC0") (Some book)

abbrev key : Key
key = record { contract = codes "INT"; «package» = codes "P"; origin = codes "R1"; dest = codes "D1" }

abbrev carried : Row
carried = row.Carry key 20

abbrev north : List Row
north = segment ∷ branch ∷ head (codes "NORTH") ∷ carried ∷ []

abbrev south : List Row
south = segment ∷ head (codes "SOUTH") ∷ []

abbrev run : List Row
run = row.Office (office.Session 2 (codes "SHIP")) ∷ row.Event (event.Post 7 (codes "S1") 8) ∷ row.Office (office.Desk 9) ∷ []

-- the second segment of a block begins none, and what runs the office stands behind the last block
is_cut : blocks_of (north ++ south ++ run) ≡ record { before = 0; rows = north } ∷ record { before = 4; rows = south ++ run } ∷ []
is_cut = refl

abbrev book_and_lines : Opened → List ℕ × ℕ
book_and_lines d = (d.book, length d.carry)

-- what a block says has a place of its own: a segment has its name, and a line its key, again in the next one
two_days : (days_of (north ++ south ++ carried ∷ run) >>= λ days. Ok (map book_and_lines days))
    ≡ Ok ((codes "NORTH", 1) ∷ (codes "SOUTH", 1) ∷ [])
unfolding built_from
two_days = refl

abbrev refused : List Row → ℕ → Cause → Type 0
refused rows n c = days_of rows ≡ Err (fault.Row n c)

-- a segment that is there already, at its row of the whole text
segment_twice : refused (north ++ segment ∷ segment ∷ head (codes "SOUTH") ∷ []) 6 (cause.Build build.Duplicate)
unfolding built_from
segment_twice = refl

-- a book that is there already, at the later head: behind a fault of a row before it, and before one of a row behind it
book_twice : (refused (north ++ segment ∷ head (codes "NORTH") ∷ carried ∷ carried ∷ []) 6 cause.Duplicate)
    × (refused (north ++ segment ∷ segment ∷ head (codes "NORTH") ∷ []) 6 (cause.Build build.Duplicate))
unfolding built_from
book_twice = (refl, refl)

-- a line that is carried twice, at its row of the whole text
carried_twice : refused (north ++ segment ∷ head (codes "SOUTH") ∷ carried ∷ carried ∷ []) 8 cause.Duplicate
unfolding built_from
carried_twice = refl

-- a first block with no segment, or a block with no head, is told at one row past the last of all
nothing_built : (refused (head (codes "NORTH") ∷ south) 4 (cause.Build build.NoSegment))
    × (refused (segment ∷ carried ∷ south) 5 cause.Missing)
unfolding built_from
nothing_built = (refl, refl)
