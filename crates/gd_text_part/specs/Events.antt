-- What the fields of event rows are. Each has its moment in field 2.
use Rattle.std.specs.Prelude.{ℕ, List, Option, Some, None, Result, Ok, Err, if◌then◌else◌}
use Rattle.gd_text_part.specs.Kinds.{is_text}
use Rattle.gd_text_part.specs.Rows.{◌>>=◌, name_at, number_at, quantity_at, round_at, moment_at, line_at}
use Rattle.gd_text_part.specs.Rows.{end_at, key_at, empty_from}
use Rattle.gd_text_part.specs.declared.fault.Cause.{Cause}
use Rattle.gd_text_part.specs.declared.fault.Cause.TheVariants as cause
use Rattle.gd_text_part.specs.declared.kind.RowKind.{RowKind}
use Rattle.gd_text_part.specs.declared.kind.RowKind.TheVariants as kind
use Rattle.gd_text_part.specs.declared.row.Row.{Row}
use Rattle.gd_text_part.specs.declared.row.Row.TheVariants as row
use Rattle.gd_text_part.specs.declared.row.EventRow.{EventRow}
use Rattle.gd_text_part.specs.declared.row.EventRow.TheVariants as event
use Rattle.gd_text_part.specs.declared.row.OfficeRow.TheVariants as office

-- any party, or that of a session where the row is one of its calls
abbrev pub good_party : Option (List ℕ) → ℕ → List ℕ → Result (List ℕ) Cause
good_party None k name = Ok name
good_party (Some party) k name = if is_text name party then Ok name else Err (cause.BadField k)

abbrev pub party_at : Option (List ℕ) → List (List ℕ) → ℕ → Result (List ℕ) Cause
party_at session fields k = name_at fields k >>= good_party session k

unfoldable pub nominate_row : Option (List ℕ) → List (List ℕ) → Result EventRow Cause
nominate_row session fields = do
  moment ← moment_at fields 2
  party ← party_at session fields 3
  key ← key_at fields 4
  quantity ← quantity_at fields 8
  Ok (event.Nominate moment party key quantity)

unfoldable pub respond_row : Option (List ℕ) → List (List ℕ) → Result EventRow Cause
respond_row session fields = do
  moment ← moment_at fields 2
  party ← party_at session fields 3
  line ← line_at fields 4
  end ← end_at fields 5
  quantity ← quantity_at fields 6
  rest ← empty_from fields 7
  Ok (event.Respond moment party line end quantity)

unfoldable pub post_row : List (List ℕ) → Result EventRow Cause
post_row fields = do
  moment ← moment_at fields 2
  element ← name_at fields 3
  capacity ← quantity_at fields 4
  rest ← empty_from fields 5
  Ok (event.Post moment element capacity)

unfoldable pub waive_row : List (List ℕ) → Result EventRow Cause
waive_row fields = do
  moment ← moment_at fields 2
  line ← line_at fields 3
  rest ← empty_from fields 4
  Ok (event.Waive moment line)

-- the moment of a row that says no more
unfoldable pub only_moment : List (List ℕ) → Result ℕ Cause
only_moment fields = do
  moment ← moment_at fields 2
  rest ← empty_from fields 3
  Ok moment

-- the moment and the round of a row that says no more
unfoldable pub moment_and_round : List (List ℕ) → Result (ℕ × ℕ) Cause
moment_and_round fields = do
  moment ← moment_at fields 2
  round ← round_at fields 3
  rest ← empty_from fields 4
  Ok (moment, round)

-- the call of this kind that the fields are, which has the party of its session where there is one, or the least bad field
abbrev pub event_at : RowKind → Option (List ℕ) → List (List ℕ) → Result EventRow Cause
event_at kind.Nominate session fields = nominate_row session fields
event_at kind.Respond session fields = respond_row session fields
event_at kind.Post session fields = post_row fields
event_at kind.Freeze session fields = only_moment fields >>= λ m. Ok (event.Freeze m)
event_at kind.Settle session fields = only_moment fields >>= λ m. Ok (event.Settle m)
event_at kind.Publish session fields = moment_and_round fields >>= λ r. Ok (event.Publish r.0 r.1)
event_at kind.Declare session fields = moment_and_round fields >>= λ r. Ok (event.Declare r.0 r.1)
event_at kind.Waive session fields = waive_row fields
event_at kind.Skip session fields = only_moment fields >>= λ m. Ok (event.Skip m)
event_at k session fields = Err cause.Order

abbrev pub event_row : RowKind → Option (List ℕ) → List (List ℕ) → Result Row Cause
event_row k session fields = event_at k session fields >>= λ e. Ok (row.Event e)

-- a session with the book of one of so many slots
unfoldable pub session_row : ℕ → List (List ℕ) → Result Row Cause
session_row slots fields = do
  slot ← number_at fields 2 1 slots
  party ← name_at fields 3
  rest ← empty_from fields 4
  Ok (row.Office (office.Session slot party))

abbrev pub desk_row : List (List ℕ) → Result Row Cause
desk_row fields = only_moment fields >>= λ m. Ok (row.Office (office.Desk m))
