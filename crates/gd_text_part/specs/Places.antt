-- The order of rows: which may follow which, and the first fault of a record.
use Rattle.std.specs.Prelude.{ℕ, ◌+◌, Bool, true, false, ◌==◌, ◌&&◌, ◌||◌, not, nat_le, if◌then◌else◌}
use Rattle.std.specs.Prelude.{List, length, Option, Some, None, Result, Ok, Err}
use Rattle.gd_text_part.specs.Events.{event_row, session_row, desk_row}
use Rattle.gd_text_part.specs.Findings.{at_row}
use Rattle.gd_text_part.specs.Kinds.{kind_in, stage_of, is_sched, is_of_certificate, is_of_cut, takes, needs_book}
use Rattle.gd_text_part.specs.Offices.{no_blocks, begins, with_block, counted, phase_behind, party_of, lacks_session}
use Rattle.gd_text_part.specs.Rows.{◌>>=◌, field, segment_row, point_row, pool_row, contract_row, question_row, day_row}
use Rattle.gd_text_part.specs.Rows.{capacity_row, carry_row, line_row, sched_row, price_row, inside_row, bumped_row}
use Rattle.gd_text_part.specs.declared.blocks.Blocks.{Blocks}
use Rattle.gd_text_part.specs.declared.fault.Cause.{Cause}
use Rattle.gd_text_part.specs.declared.fault.Cause.TheVariants as cause
use Rattle.gd_text_part.specs.declared.fault.RowFault.{RowFault}
use Rattle.gd_text_part.specs.declared.kind.RowKind.{RowKind}
use Rattle.gd_text_part.specs.declared.kind.RowKind.TheVariants as kind
use Rattle.gd_text_part.specs.declared.kind.Form.{Form}
use Rattle.gd_text_part.specs.declared.kind.Form.TheVariants as form
use Rattle.gd_text_part.specs.declared.order.Place.{Place}
use Rattle.gd_text_part.specs.declared.row.Row.{Row}
use Rattle.gd_text_part.specs.declared.row.TheConstants.{FIELD_COUNT}
use Rattle.gd_text_part.specs.declared.waiting.Waiting.{Waiting}
use Rattle.gd_text_part.specs.declared.waiting.Waiting.TheVariants as waiting

-- where a text begins
abbrev pub start : Place
start = record { stage = 0; headed = false; scheds = 0; waiting = waiting.Nothing; blocks = no_blocks }

-- the head of a text or a block, which stands once in it
abbrev pub is_head : RowKind → Bool
is_head kind.Question = true
is_head kind.Day = true
is_head k = false

-- the least stage of the row behind one of this kind: its own, but behind an event row `sched` rows may stand again
abbrev pub stage_behind : RowKind → ℕ
stage_behind k = if stage_of k == 9 then stage_of kind.Sched else stage_of k

-- the first of the rows that wait, where a row of this kind leaves them over: an event row that doesn't take them, or a
-- row of the other group
abbrev pub left_over : Waiting → RowKind → Option ℕ
left_over waiting.Nothing k = None
left_over (waiting.Phase began sessions party) k = None
left_over (waiting.Certificate began) k =
    if nat_le (stage_of kind.Sched) (stage_of k) && not (is_of_certificate k) then Some began else None
left_over (waiting.Cut began) k =
    if nat_le (stage_of kind.Sched) (stage_of k) && not (is_of_cut k) then Some began else None

abbrev pub certificate_from : Waiting → ℕ → Waiting
certificate_from (waiting.Certificate began) n = waiting.Certificate began
certificate_from w n = waiting.Certificate n

abbrev pub cut_from : Waiting → ℕ → Waiting
cut_from (waiting.Cut began) n = waiting.Cut began
cut_from w n = waiting.Cut n

-- what waits for a call of the book behind row n of this kind
abbrev pub waiting_behind : Waiting → ℕ → RowKind → Waiting
waiting_behind w n kind.Sched = certificate_from w n
waiting_behind w n kind.Price = certificate_from w n
waiting_behind w n kind.Inside = cut_from w n
waiting_behind w n k = waiting.Nothing

-- what waits behind row n of this kind: for a call of the book, or for a `desk` row
abbrev pub waiting_after : Form → Waiting → ℕ → RowKind → Row → Result Waiting Cause
waiting_after form.Day w n k r = Ok (waiting_behind w n k)
waiting_after form.Office w n k r = phase_behind w n r
waiting_after f w n k r = Ok waiting.Nothing

-- whether the stage of a row of this kind is not below the least that may stand here, and it is no second head
abbrev pub goes_on : Place → RowKind → Bool
goes_on place k = nat_le place.stage (stage_of k) && not (is_head k && place.headed)

-- whether a row of this kind begins a block, or goes on here and has the session that it needs
abbrev pub may_stand : Form → Place → RowKind → Bool
may_stand form place k = begins form place.stage k || (goes_on place k && not (lacks_session form place.waiting k))

-- row n is out of order
abbrev pub misplaced : ℕ → RowFault
misplaced n = record { row = n; cause = cause.Order }

abbrev pub stands_behind : Option ℕ → Form → Place → ℕ → RowKind → Result (Unit {0}) RowFault
stands_behind (Some began) form place n k = Err (misplaced began)
stands_behind None form place n k = if may_stand form place k then Ok tt else Err (misplaced n)

-- whether a row of this kind may stand here as row n, asked in this order: the command takes it; it leaves over no rows
-- that wait, which is told at the first of them; and its stage, the head and the session allow it
abbrev pub stands : Form → Place → ℕ → RowKind → Result (Unit {0}) RowFault
stands form place n k =
    if takes form k then stands_behind (left_over place.waiting k) form place n k else Err (misplaced n)

-- the blocks after a row of this kind: one more, or one session more of a slot
abbrev pub blocks_after : Form → Place → RowKind → Row → Result Blocks Cause
blocks_after form place k r =
    if begins form place.stage k then with_block place.blocks place.headed else counted place.blocks r

-- where the rows stand after row n of this kind, or the limit that it passes; `sched` rows are counted from 1 again behind
-- each other row, and a block has a head of its own
abbrev pub after : Form → Place → ℕ → RowKind → Row → Result Place Cause
after form place n k r = do
  blocks ← blocks_after form place k r
  waiting ← waiting_after form place.waiting n k r
  Ok (record {
    stage = stage_behind k;
    headed = is_head k || (place.headed && not (begins form place.stage k));
    scheds = if is_sched k then place.scheds + 1 else 0;
    waiting = waiting;
    blocks = blocks;
  })

-- the row of this kind that the fields are, or the least bad field
abbrev pub body : Form → RowKind → Place → List (List ℕ) → Result Row Cause
body form kind.Segment place fields = segment_row fields
body form kind.Point place fields = point_row fields
body form kind.Pool place fields = pool_row fields
body form kind.Contract place fields = contract_row fields
body form kind.Question place fields = question_row fields
body form kind.Day place fields = day_row (needs_book form) fields
body form kind.Capacity place fields = capacity_row fields
body form kind.Carry place fields = carry_row fields
body form kind.Line place fields = line_row fields
body form kind.Sched place fields = sched_row (place.scheds + 1) fields
body form kind.Price place fields = price_row fields
body form kind.Inside place fields = inside_row fields
body form kind.Session place fields = session_row place.blocks.begun fields
body form kind.Desk place fields = desk_row fields
body form kind.Bumped place fields = bumped_row fields
body form k place fields = event_row k (party_of place.waiting) fields

abbrev pub good_kind : Option RowKind → Result RowKind Cause
good_kind None = Err cause.UnknownKind
good_kind (Some k) = Ok k

-- the kind of a record: the count of fields, then the first of them
abbrev pub kind_at : Form → List (List ℕ) → Result RowKind Cause
kind_at form fields =
    if length fields == FIELD_COUNT then good_kind (kind_in form (field fields 1)) else Err cause.FieldCount

-- the row that record n is and where the rows stand after it, or the first fault: the count of fields, the kind, the
-- order, the fields, and a limit last
abbrev pub row_of : Form → Place → ℕ → List (List ℕ) → Result (Row × Place) RowFault
row_of form place n fields = do
  kind ← at_row n (kind_at form fields)
  standing ← stands form place n kind
  row ← at_row n (body form kind place fields)
  next ← at_row n (after form place n kind row)
  Ok (row, next)

-- the head of a text of n rows is missing, which is told at one row past the last
abbrev pub missing_head : ℕ → RowFault
missing_head n = record { row = n + 1; cause = cause.Missing }

abbrev pub ended : Waiting → Bool → ℕ → Result (Unit {0}) RowFault
ended (waiting.Certificate began) headed n = Err (misplaced began)
ended (waiting.Cut began) headed n = Err (misplaced began)
ended (waiting.Phase began sessions party) headed n = Err (misplaced began)
ended waiting.Nothing headed n = if headed then Ok tt else Err (missing_head n)

-- the fault that the end of a text of n rows shows: rows that still wait are left over, or the head is missing, that of a
-- block too
abbrev pub at_end : Place → ℕ → Result (Unit {0}) RowFault
at_end place n = ended place.waiting (place.headed && not place.blocks.headless) n
