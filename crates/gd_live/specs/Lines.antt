-- What a line of a live run does to its book, what is kept of it, and what is told.
use Rattle.std.specs.Prelude.{◌≡◌, ◌≢◌, ◌⊎◌, ℕ, ◌+◌, ◌-◌, ◌*◌, ◌≤◌, ◌<◌, true, Some, None, List, [], ◌∷◌, ◌++◌, length, Ok, Err, ⊤}
use Rattle.gd_rules.specs.Limits.{classes}
use Rattle.gd_question.specs.Posing.{Posed}
use Rattle.gd_text_part.specs.Lines.{bare, line_of}
use Rattle.gd_text_part.specs.declared.fault.RowFault.{RowFault}
use Rattle.gd_text_part.specs.declared.fault.TextFault.{TextFault}
use Rattle.gd_text_part.specs.declared.order.Place.{Place}
use Rattle.gd_text_part.specs.declared.row.EventRow.{EventRow}
use Rattle.gd_text_part.specs.declared.row.EventRow.TheVariants as event
use Rattle.gd_text_part.specs.declared.row.Row.{Row}
use Rattle.gd_text_part.specs.declared.row.Row.TheVariants as row
use Rattle.gd_text.specs.Building.{row_fault}
use Rattle.gd_day.specs.Calls.{event_of}
use Rattle.gd_day.specs.Groups.{Passes, checked_group}
use Rattle.gd_machine.specs.Day.{Day}
use Rattle.gd_machine.specs.History.{History, is_frozen, round_of}
use Rattle.gd_machine.specs.Asking.{question}
use Rattle.gd_replies.specs.Lines.{lines_of}
use Rattle.gd_replies.specs.declared.reply.Reply.{Reply}
use Rattle.gd_replies.specs.declared.reply.Reply.TheVariants as reply
use Rattle.gd_course.specs.Course.{RowGives}
use Rattle.gd_serving.specs.Yields.{Yield}
use Rattle.gd_live.specs.Stands.{Group, no_group, with_line, Room, Stand, IsGroup}

-- nothing is kept, and these rows are told
abbrev pub only_told : List Reply → Yield
only_told told = record { rows = []; replies = []; told = lines_of told }

-- these bytes of rows are kept, with these replies, which are told
abbrev pub kept_and_told : List ℕ → List Reply → Yield
kept_and_told rows told = record { rows = rows; replies = lines_of told; told = lines_of told }

-- an empty line is told as it is
abbrev pub echoed : Yield
echoed = record { rows = []; replies = []; told = 10 ∷ [] }

-- the stand behind so many rows
abbrev pub numbered : Stand → ℕ → Stand
numbered s n = record { day = s.day; history = s.history; group = s.group; number = n; room = s.room }

-- the stand behind the next row, before anything came of it
abbrev pub counted : Stand → Stand
counted s = numbered s (s.number + 1)

-- the same with these rows that wait
abbrev pub waits : Stand → Group → Stand
waits s g = record { day = s.day; history = s.history; group = g; number = s.number; room = s.room }

abbrev pub cleared : Stand → Stand
cleared s = waits s no_group

-- The row that a bare line is behind the rows that wait, and where rows stand behind it.
abbrev pub IsRow : Stand → List ℕ → Row → Place → Type 0
IsRow s line r place = line_of s.group.place s.number line ≡ Ok (r, place)

-- A line may be kept behind the rows of a group, where a text may still have so much.
pub record HasRoom (room : Room) (g : Group) (line : List ℕ) : Type 0 where
  pub rows : length g.rows < room.rows
  pub bytes : length (with_line g line) ≤ room.bytes

-- the row publishes the frozen question of this round at this moment, or declares that it has no schedule
abbrev pub Concludes : ℕ → ℕ → EventRow → Type 0
Concludes moment round (event.Publish at n) = (at ≡ moment) × (n ≡ round)
Concludes moment round (event.Declare at n) = (at ≡ moment) × (n ≡ round)
Concludes moment round e = ⊥

-- how many rows such a call needs before it at most: a quantity of each line and a price of each element at each class, or
-- the name of each place, point and pool
abbrev pub most_rows : Posed → EventRow → ℕ
most_rows q (event.Publish at n) = length q.asked.lines + classes * length q.asked.elements
most_rows q e = length q.pipeline.places + (length q.pipeline.points + length q.pipeline.pools)

-- What the frozen cycle comes to, settled at this moment: the rows of a group, no more than are needed, and the line of a
-- call behind it, which publishes or declares the current round.
pub record IsConclusion (day : Day) (h : History) (moment : ℕ) (g : Group) (line : List ℕ) (e : EventRow) : Type 0 where
  pub frozen : is_frozen h ≡ true
  pub group : IsGroup (length g.rows) g
  pub few : length g.rows ≤ most_rows (question day h) e
  pub place : Place
  pub reads : line_of g.place (length g.rows + 1) line ≡ Ok (row.Event e, place)
  pub concludes : Concludes moment (round_of h) e

-- The book may accept the call behind these rows: their prices and their set can be made, and the call may give more history.
pub record IsAcceptable (day : Day) (h : History) (group : List Row) (e : EventRow) : Type 0 where
  pub passes : Passes day.holdings.pipeline group
  pub told : List Reply
  pub after : History
  pub gives : RowGives day h group e told after
  pub grows : after ≢ h

-- What the cycle comes to, settled at this moment, is a call that the book may accept, and no text may still have so much.
pub record IsTooLong (s : Stand) (moment : ℕ) : Type 0 where
  pub group : Group
  pub last : List ℕ
  pub called : EventRow
  pub conclusion : IsConclusion s.day s.history moment group last called
  pub acceptable : IsAcceptable s.day s.history group.rows called
  pub full : ¬ (HasRoom s.room group last)

-- Why a bare line is faulty: it is no row, or not here; no more rows may be kept; it is a call whose group has prices or a
-- set that can't be made; or it settles a cycle, and what that comes to, which may be accepted, may not be kept any more.
abbrev pub IsFaulty : Stand → List ℕ → Reply → Type 0
IsFaulty s line told =
    ((fault : RowFault) × (line_of s.group.place s.number line ≡ Err fault) × (told ≡ reply.Fault (row_fault fault)))
    ⊎ ((r : Row) × (place : Place) × IsRow s line r place × ¬ (HasRoom s.room s.group line) × (told ≡ reply.Full s.number))
    ⊎ ((r : Row) × (place : Place) × (e : EventRow) × (fault : TextFault) × IsRow s line r place × HasRoom s.room s.group line
    × (event_of r ≡ Some e) × (checked_group s.day.holdings.pipeline (s.number - length s.group.rows) s.group.rows ≡ Err fault)
    × (told ≡ reply.Fault fault))
    ⊎ ((moment : ℕ) × (place : Place) × IsRow s line (row.Event (event.Settle moment)) place × HasRoom s.room s.group line
    × IsTooLong s moment × (told ≡ reply.Full s.number))

-- so much may still be kept behind a line with the rows of its group
pub record IsLess (g : Group) (line : List ℕ) (room after : Room) : Type 0 where
  pub rows : after.rows + (length g.rows + 1) ≡ room.rows
  pub bytes : after.bytes + length (with_line g line) ≡ room.bytes

-- The call behind a group was made: what it gave is told, and kept with the bytes of their lines.
pub record IsMade (s : Stand) (g : Group) (line : List ℕ) (e : EventRow) (after : Stand) (yield : Yield) : Type 0 where
  pub told : List Reply
  pub passes : Passes s.day.holdings.pipeline g.rows
  pub gives : RowGives s.day s.history g.rows e told after.history
  pub yield_is : yield ≡ kept_and_told (with_line g line) told
  pub day : after.day ≡ s.day
  pub group : after.group ≡ no_group
  pub number : after.number ≡ s.number
  pub room : IsLess g line s.room after.room

-- what a settle comes to may be kept in its place
abbrev pub IsSettle : EventRow → Type 0
IsSettle (event.Settle moment) = ⊤
IsSettle e = ⊥

-- The call is made as it came; but of a cycle that is settled what it comes to is made in its place, and is accepted.
abbrev pub Makes : Stand → List ℕ → EventRow → Stand → Yield → Type 0
Makes s line e after yield =
    (IsMade s s.group line e after yield × (IsSettle e → after.history ≡ s.history))
    ⊎ ((moment : ℕ) × (e ≡ event.Settle moment) × ((g : Group) × (last : List ℕ) × (made : EventRow)
    × IsConclusion s.day s.history moment g last made × IsMade s g last made after yield × (after.history ≢ s.history)))

-- The line is faulty as a row: that is told, and the rows that wait are dropped.
abbrev pub Refuses : Stand → List ℕ → Stand → Yield → Type 0
Refuses s line after yield = (told : Reply) × IsFaulty s line told × (after ≡ cleared s) × (yield ≡ only_told (told ∷ []))

-- The line is a row of a group, which waits for its call.
abbrev pub Joins : Stand → List ℕ → Stand → Yield → Type 0
Joins s line after yield =
    (r : Row) × (place : Place) × IsRow s line r place × HasRoom s.room s.group line × (event_of r ≡ None)
    × (after ≡ waits s (record { place = place; rows = s.group.rows ++ r ∷ []; bytes = with_line s.group line })) × (yield ≡ only_told [])

-- The line is a call, which is made.
abbrev pub Calls : Stand → List ℕ → Stand → Yield → Type 0
Calls s line after yield =
    (r : Row) × (place : Place) × (e : EventRow) × IsRow s line r place × HasRoom s.room s.group line × (event_of r ≡ Some e)
    × Makes s line e after yield

-- what the row of this stand's number does
abbrev pub RowDoes : Stand → List ℕ → Stand → Yield → Type 0
RowDoes s line after yield = Refuses s line after yield ⊎ Joins s line after yield ⊎ Calls s line after yield

-- An empty line is told as it is. Any other is one row more.
abbrev pub BareGives : Stand → List ℕ → Stand → Yield → Type 0
BareGives s line after yield =
    ((line ≡ []) × (after ≡ s) × (yield ≡ echoed))
    ⊎ ((line ≢ []) × RowDoes (counted s) line after yield)

-- What a line does: one carriage return at its end is no part of it.
abbrev pub LineGives : Stand → List ℕ → Stand → Yield → Type 0
LineGives s line after yield = BareGives s (bare line) after yield

-- What a line does to a stand whose rows that wait are a group's; behind it they are again.
abbrev pub Gives : Stand → List ℕ → Stand → Yield → Type 0
Gives s line after yield = IsGroup s.number s.group → LineGives s line after yield × IsGroup after.number after.group
