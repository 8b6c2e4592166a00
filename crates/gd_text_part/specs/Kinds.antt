-- The kinds of rows.
use Rattle.std.specs.Prelude.{ℕ, Bool, true, false, ◌==◌, ◌||◌, List, Option, Some, None, codes, if◌then◌else◌}
use Rattle.std.specs.Cmp.Lexicographic.{pointwise}
use Rattle.gd_text_part.specs.declared.kind.RowKind.{RowKind}
use Rattle.gd_text_part.specs.declared.kind.RowKind.TheVariants as kind
use Rattle.gd_text_part.specs.declared.kind.Form.{Form}
use Rattle.gd_text_part.specs.declared.kind.Form.TheVariants as form

abbrev pub is_text : List ℕ → List ℕ → Bool
is_text a b = pointwise ◌==◌ a b

-- the kind of event row that a first field names
abbrev pub event_of : List ℕ → Option RowKind
event_of text =
    if is_text text (codes "nominate") then Some kind.Nominate
    else if is_text text (codes "respond") then Some kind.Respond
    else if is_text text (codes "post") then Some kind.Post
    else if is_text text (codes "freeze") then Some kind.Freeze
    else if is_text text (codes "settle") then Some kind.Settle
    else if is_text text (codes "publish") then Some kind.Publish
    else if is_text text (codes "declare") then Some kind.Declare
    else if is_text text (codes "waive") then Some kind.Waive
    else if is_text text (codes "skip") then Some kind.Skip
    else if is_text text (codes "session") then Some kind.Session
    else if is_text text (codes "desk") then Some kind.Desk
    else None

-- the kind that a first field names in every text
abbrev pub kind_of : List ℕ → Option RowKind
kind_of text =
    if is_text text (codes "segment") then Some kind.Segment
    else if is_text text (codes "point") then Some kind.Point
    else if is_text text (codes "pool") then Some kind.Pool
    else if is_text text (codes "contract") then Some kind.Contract
    else if is_text text (codes "question") then Some kind.Question
    else if is_text text (codes "day") then Some kind.Day
    else if is_text text (codes "capacity") then Some kind.Capacity
    else if is_text text (codes "carry") then Some kind.Carry
    else if is_text text (codes "line") then Some kind.Line
    else if is_text text (codes "sched") then Some kind.Sched
    else if is_text text (codes "price") then Some kind.Price
    else if is_text text (codes "inside") then Some kind.Inside
    else event_of text

-- the kind that a first field names in the text of a command: only the body of a posting has `bumped` rows
abbrev pub kind_in : Form → List ℕ → Option RowKind
kind_in form.Body text = if is_text text (codes "bumped") then Some kind.Bumped else kind_of text
kind_in f text = kind_of text

-- the stage that a kind stands in
abbrev pub stage_of : RowKind → ℕ
stage_of kind.Segment = 1
stage_of kind.Point = 1
stage_of kind.Pool = 1
stage_of kind.Contract = 2
stage_of kind.Question = 3
stage_of kind.Day = 3
stage_of kind.Capacity = 4
stage_of kind.Carry = 4
stage_of kind.Line = 5
stage_of kind.Sched = 6
stage_of kind.Price = 7
stage_of kind.Inside = 8
stage_of kind.Bumped = 8
stage_of kind.Nominate = 9
stage_of kind.Respond = 9
stage_of kind.Post = 9
stage_of kind.Freeze = 9
stage_of kind.Settle = 9
stage_of kind.Publish = 9
stage_of kind.Declare = 9
stage_of kind.Waive = 9
stage_of kind.Skip = 9
stage_of kind.Session = 9
stage_of kind.Desk = 9

-- rows that build a pipeline and ask a question about it
abbrev pub asks : RowKind → Bool
asks kind.Segment = true
asks kind.Point = true
asks kind.Pool = true
asks kind.Question = true
asks kind.Capacity = true
asks kind.Line = true
asks k = false

abbrev pub is_sched : RowKind → Bool
is_sched kind.Sched = true
is_sched k = false

abbrev pub is_price : RowKind → Bool
is_price kind.Price = true
is_price k = false

abbrev pub is_inside : RowKind → Bool
is_inside kind.Inside = true
is_inside k = false

abbrev pub is_bumped : RowKind → Bool
is_bumped kind.Bumped = true
is_bumped k = false

abbrev pub is_segment : RowKind → Bool
is_segment kind.Segment = true
is_segment k = false

abbrev pub is_day : RowKind → Bool
is_day kind.Day = true
is_day k = false

-- rows of a gas day: all but those that ask a question about a pipeline, those of sessions, and those of bumped lines
abbrev pub is_of_day : RowKind → Bool
is_of_day kind.Question = false
is_of_day kind.Capacity = false
is_of_day kind.Line = false
is_of_day kind.Session = false
is_of_day kind.Desk = false
is_of_day kind.Bumped = false
is_of_day k = true

-- rows of a certificate, and the event row that takes them
abbrev pub is_of_certificate : RowKind → Bool
is_of_certificate kind.Sched = true
is_of_certificate kind.Price = true
is_of_certificate kind.Publish = true
is_of_certificate k = false

-- rows of a cut, and the event row that takes them
abbrev pub is_of_cut : RowKind → Bool
is_of_cut kind.Inside = true
is_of_cut kind.Declare = true
is_of_cut k = false

-- rows of a block, which says what a slot of an office begins with
abbrev pub is_of_block : RowKind → Bool
is_of_block kind.Segment = true
is_of_block kind.Point = true
is_of_block kind.Pool = true
is_of_block kind.Contract = true
is_of_block kind.Day = true
is_of_block kind.Carry = true
is_of_block k = false

-- the calls that a session makes
abbrev pub is_of_session : RowKind → Bool
is_of_session kind.Nominate = true
is_of_session kind.Respond = true
is_of_session kind.Post = true
is_of_session k = false

abbrev pub is_session_or_desk : RowKind → Bool
is_session_or_desk kind.Session = true
is_session_or_desk kind.Desk = true
is_session_or_desk k = false

-- rows of an office: its blocks, its sessions with their calls, and its desk rounds
abbrev pub is_of_office : RowKind → Bool
is_of_office k = is_of_block k || is_of_session k || is_session_or_desk k

-- whether the command takes rows of this kind
abbrev pub takes : Form → RowKind → Bool
takes form.CheckAllowed k = asks k || is_sched k
takes form.CheckBest k = asks k || is_sched k || is_price k
takes form.CheckCut k = asks k || is_inside k
takes form.Solve k = asks k
takes form.Calendar k = is_day k
takes form.Day k = is_of_day k
takes form.Office k = is_of_office k
takes form.Body k = asks k || is_sched k || is_price k || is_bumped k

-- whether a `day` row has to name a book
abbrev pub needs_book : Form → Bool
needs_book form.Calendar = false
needs_book f = true
