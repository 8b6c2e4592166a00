-- What the rows of a text build: a pipeline, a question about it, and a schedule; or the first refusal, at its row.
use Rattle.std.specs.Prelude.{ℕ, ◌+◌, ◌==◌, List, [], ◌∷◌, length, Option, Some, None, Result, Ok, Err, if◌then◌else◌}
use Rattle.gd_text_part.specs.Rows.{◌>>=◌}
use Rattle.gd_text_part.specs.declared.fault.Cause.TheVariants as cause
use Rattle.gd_text_part.specs.declared.fault.TextFault.{TextFault}
use Rattle.gd_text_part.specs.declared.fault.TextFault.TheVariants as fault
use Rattle.gd_text_part.specs.declared.row.Row.{Row}
use Rattle.gd_text_part.specs.declared.row.Row.TheVariants as row
use Rattle.gd_text_part.specs.declared.row.PipelineRow.TheVariants as pipeline
use Rattle.gd_text_part.specs.declared.row.QuestionRow.TheVariants as question
use Rattle.gd_system.specs.Pipeline.{Pipeline, element_number}
use Rattle.gd_system.specs.Building.{empty, after_segment, after_point, after_pool}
use Rattle.gd_system.specs.declared.BuildFault.{BuildFault}
use Rattle.gd_system.specs.declared.BuildFault.TheVariants as build
use Rattle.gd_system.specs.declared.RouteFault.TheVariants as route
use Rattle.gd_question.specs.Posing.{Posed}
use Rattle.gd_question.specs.Filling.{posed, after_capacity, after_line}
use Rattle.gd_question.specs.declared.fault.CapacityFault.{CapacityFault}
use Rattle.gd_question.specs.declared.fault.LineFault.{LineFault}
use Rattle.gd_question.specs.declared.fault.LineFault.TheVariants as line
use Rattle.gd_text_part.specs.Places.{missing_head}
use Rattle.gd_text.specs.Building.{built_from, result_as, row_fault}

-- A refusal is told at its row, and want of memory as such.
abbrev pub build_fault_at : ℕ → BuildFault → TextFault
build_fault_at n build.OutOfMemory = fault.OutOfMemory
build_fault_at n f = fault.Row n (cause.Build f)

abbrev pub line_fault_at : ℕ → LineFault → TextFault
line_fault_at n line.OutOfMemory = fault.OutOfMemory
line_fault_at n (line.Route route.OutOfMemory) = fault.OutOfMemory
line_fault_at n f = fault.Row n (cause.Line f)

abbrev pub capacity_fault_at : ℕ → CapacityFault → TextFault
capacity_fault_at n f = fault.Row n (cause.Capacity f)

-- The pipeline after row n: a segment, point or pool is added to it, and other rows say nothing of it.
abbrev pub pipeline_step : ℕ → Pipeline → Row → Result Pipeline TextFault
pipeline_step n p (row.Pipeline (pipeline.Segment name from to limit)) = result_as (build_fault_at n) (after_segment p name from to limit)
pipeline_step n p (row.Pipeline (pipeline.Point name kind place operator limit)) =
    result_as (build_fault_at n) (after_point p name kind place operator limit)
pipeline_step n p (row.Pipeline (pipeline.Pool name place operator)) = result_as (build_fault_at n) (after_pool p name place operator)
pipeline_step n p r = Ok p

abbrev pub finished : ℕ → Pipeline → Result Pipeline TextFault
finished n p = if length p.tree == 0 then Err (fault.Row n (cause.Build build.NoSegment)) else Ok p

-- The pipeline of all rows. Without a segment it is refused, at one row past the last.
abbrev pub pipeline_of : List Row → Result Pipeline TextFault
pipeline_of rows = built_from pipeline_step 1 empty rows >>= finished (length rows + 1)

-- The book, cycle and round of the first `question` row.
abbrev pub head_of : List Row → Option (List ℕ × ℕ × ℕ)
head_of [] = None
head_of (row.Question (question.Head book cycle round) ∷ rows) = Some (book, cycle, round)
head_of (r ∷ rows) = head_of rows

abbrev pub capacity_at : ℕ → Posed → Option ℕ → ℕ → Result Posed TextFault
capacity_at n q None limit = Err (fault.Row n cause.UnknownElement)
capacity_at n q (Some e) limit = result_as (capacity_fault_at n) (after_capacity q e limit)

-- The question after row n: a capacity is set, a line is added, and other rows say nothing of it.
abbrev pub question_step : ℕ → Posed → Row → Result Posed TextFault
question_step n q (row.Question (question.Capacity element limit)) =
    capacity_at n q (element_number q.pipeline element) limit
question_step n q (row.Question (question.Line origin dest class floor ceiling)) =
    result_as (line_fault_at n) (after_line q origin dest class floor ceiling)
question_step n q r = Ok q

abbrev pub question_under : List Row → Pipeline → Option (List ℕ × ℕ × ℕ) → Result Posed TextFault
question_under rows p None = Err (row_fault (missing_head (length rows)))
question_under rows p (Some head) = built_from question_step 1 (posed p head.0 head.1 head.2) rows

-- The question of all rows about a pipeline.
abbrev pub question_about : List Row → Pipeline → Result Posed TextFault
question_about rows p = question_under rows p (head_of rows)

-- The question of a text, or the first refusal.
abbrev pub question_of : List Row → Result Posed TextFault
question_of rows = pipeline_of rows >>= question_about rows

-- The quantities of the `sched` rows, in order.
abbrev pub quantities_of : List Row → List ℕ
quantities_of [] = []
quantities_of (row.Sched at quantity ∷ rows) = quantity ∷ quantities_of rows
quantities_of (r ∷ rows) = quantities_of rows

abbrev pub with_schedule : List Row → Posed → Result (Posed × List ℕ) TextFault
with_schedule rows q = Ok (q, quantities_of rows)

-- The question of a text and the schedule that it offers, or the first refusal.
abbrev pub asked_of : List Row → Result (Posed × List ℕ) TextFault
asked_of rows = question_of rows >>= with_schedule rows
