-- The phases of an office's text with the calls of their sessions.
use Rattle.std.specs.Prelude.{ℕ, ◌-◌, List, [], map, slice_get, Option, Some, None}
use Rattle.std.specs.List.{filter_map}
use Rattle.gd_system.specs.Pipeline.{Pipeline}
use Rattle.gd_text_part.specs.declared.row.EventRow.{EventRow}
use Rattle.gd_text_part.specs.declared.row.EventRow.TheVariants as row
use Rattle.gd_day.specs.ElementNames.{element_named}
use Rattle.gd_day.specs.declared.text.DayText.{DayText}
use Rattle.gasday_office.specs.Phases.{Called, Round}
use Rattle.gd_office_part.specs.declared.call.Call.{Call}
use Rattle.gd_office_part.specs.declared.call.Call.TheVariants as call
use Rattle.gd_office_part.specs.declared.threads.Phase.{Phase}
use Rattle.gd_office_part.specs.declared.threads.SessionRows.{SessionRows}

-- A session with the book of a slot, counted from 0: who calls, and what, in order.
pub record AskedSession : Type 0 where
  pub slot : ℕ
  pub party : List ℕ
  pub calls : List Call

-- Sessions, and the moment of the desks behind them.
pub record AskedPhase : Type 0 where
  pub sessions : List AskedSession
  pub moment : ℕ

abbrev pub seen_session : SessionRows → AskedSession
seen_session s = record { slot = s.slot; party = s.party; calls = s.calls.items }

abbrev pub seen_phase : Phase → AskedPhase
seen_phase p = record { sessions = map seen_session p.sessions.items; moment = p.moment }

-- The call of a row on a pipeline, for whichever party its session has. Rows count lines from 1. Those of other kinds, which
-- no session makes, are no calls.
abbrev pub call_of : Pipeline → EventRow → Option Call
call_of p (row.Nominate moment party key quantity) = Some (call.Nominate moment key quantity)
call_of p (row.Respond moment party line end quantity) = Some (call.Respond moment (line - 1) end quantity)
call_of p (row.Post moment element capacity) = Some (call.PostCapacity moment (element_named p element) capacity)
call_of p r = None

-- The calls of rows, in order, with a slot of this pipeline; with a slot that isn't there they are none.
abbrev pub calls_on : Option Pipeline → List EventRow → List Call
calls_on None rows = []
calls_on (Some p) rows = filter_map (call_of p) rows

-- The pipelines of days by slot.
abbrev pub pipelines : List DayText → List Pipeline
pipelines days = map (λ d. d.contracts.pipeline) days

abbrev pub asked_session : List Pipeline → Called → AskedSession
asked_session slots c = record { slot = c.slot; party = c.party; calls = calls_on (slice_get slots c.slot) c.calls }

abbrev pub asked_phase : List Pipeline → Round → AskedPhase
asked_phase slots r = record { sessions = map (asked_session slots) r.sessions; moment = r.moment }
