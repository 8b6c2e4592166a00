-- The phases of an office's text, each of which a `desk` row ends.
use Rattle.std.specs.Prelude.{ℕ, ◌-◌, List, [], ◌∷◌, ◌++◌, map}
use Rattle.gd_text_part.specs.declared.row.EventRow.{EventRow}
use Rattle.gd_text_part.specs.declared.row.OfficeRow.TheVariants as office
use Rattle.gd_text_part.specs.declared.row.Row.{Row}
use Rattle.gd_text_part.specs.declared.row.Row.TheVariants as row
use Rattle.gasday_office.specs.declared.sessions.SessionText.{SessionText}
use Rattle.gasday_office.specs.declared.phases.PhaseText.{PhaseText}

-- A session with the book of a slot, counted from 0: who calls, and what, in order.
pub record Called : Type 0 where
  pub slot : ℕ
  pub party : List ℕ
  pub calls : List EventRow

-- Sessions, and the moment of the desk's round behind them.
pub record Round : Type 0 where
  pub sessions : List Called
  pub moment : ℕ

abbrev pub session : SessionText → Called
session s = record { slot = s.slot; party = s.party; calls = s.calls.items }

abbrev pub phase : PhaseText → Round
phase p = record { sessions = map session p.sessions.items; moment = p.moment }

-- The calls of a session that stands before these rows: those before the next `session` or `desk` row.
abbrev pub calls_before : List Row → List EventRow
calls_before [] = []
calls_before (row.Office r ∷ rows) = []
calls_before (row.Event event ∷ rows) = event ∷ calls_before rows
calls_before (r ∷ rows) = calls_before rows

-- The phases that end in the rows that are left, where the first of them has these sessions already. Rows count slots from 1.
abbrev pub phases_after : List Called → List Row → List Round
phases_after sessions [] = []
phases_after sessions (row.Office (office.Session slot party) ∷ rows) =
    phases_after (sessions ++ record { slot = slot - 1; party = party; calls = calls_before rows } ∷ []) rows
phases_after sessions (row.Office (office.Desk moment) ∷ rows) =
    record { sessions = sessions; moment = moment } ∷ phases_after [] rows
phases_after sessions (r ∷ rows) = phases_after sessions rows

-- The phases of a text, in order.
abbrev pub phases_of : List Row → List Round
phases_of rows = phases_after [] rows

-- Phases that have ended, and those of the rows that are left, where the next has these sessions already.
abbrev pub phases_with : List PhaseText → List SessionText → List Row → List Round
phases_with phases sessions rows = map phase phases ++ phases_after (map session sessions) rows
