-- The receipts of the calls of sessions.
use Rattle.std.specs.Prelude.{◌≡◌, ℕ, List, map, slice_get, All, IsSomeAnd}
use Rattle.std.specs.List.{AllZip, zip}
use Rattle.std.specs.Global.{Vec}
use Rattle.gd_machine.specs.declared.event.Event.{Event}
use Rattle.gd_machine.specs.Day.{Day}
use Rattle.gd_office_part.specs.declared.call.Call.{Call}
use Rattle.gd_office_part.specs.declared.kept.Receipt.{Receipt}
use Rattle.gd_office_part.specs.declared.numbers.Numbers.{Numbers}
use Rattle.gd_office_part.specs.declared.threads.SessionRows.{SessionRows}
use Rattle.gd_office_part.specs.declared.sent.Sent.{Sent}
use Rattle.gd_office_part.specs.declared.threads.Start.{Start}
use Rattle.gd_office_part.specs.Seen.{Session}
use Rattle.gd_office_part.specs.Seen.{Slot}
use Rattle.gd_office_part.specs.Calls.{event_of}
use Rattle.gd_office_part.specs.Counting.{counted_all}
use Rattle.gd_office_part.specs.StepResults.{Stepped}

-- The receipts of lists.
abbrev pub lists_of : List (Vec Receipt) → List (List Receipt)
lists_of lists = map (λ v. v.items) lists

-- The events of receipts.
abbrev pub events_of : List Receipt → List Event
events_of receipts = map (λ r. r.event) receipts

-- The events of calls that this party makes.
abbrev pub events_by : List ℕ → List Call → List Event
events_by party calls = map (event_of party) calls

-- Of each session there is a list, with one receipt of each of its calls in their order, which has that call's event by the session's party.
abbrev pub AreSent : List Session → List SessionRows → List (List Receipt) → Type 0
AreSent sessions rows lists = map events_of lists ≡ map (λ p. events_by p.0.party p.1.calls.items) (zip sessions rows)

-- Each of these receipts was one step of the book of its session's slot.
abbrev pub AreStepped : List Day → List Session → List (List Receipt) → Type 0
AreStepped days sessions lists = AllZip (λ session receipts. All (Stepped days session.number) receipts) sessions lists

-- Each session counted what its receipts tell.
abbrev pub AreCounted : List Session → List (List Receipt) → List Session → Type 0
AreCounted before lists after = map (λ s. s.numbers) after ≡ map (λ p. counted_all p.0.numbers p.1) (zip before lists)

-- What a session keeps whatever it calls.
abbrev pub kept_of : Session → ℕ × List ℕ
kept_of session = (session.number, session.party)

-- The slot at the place of the rows has this number.
abbrev pub IsAtSlot : List Slot → ℕ → SessionRows → Type 0
IsAtSlot slots number rows = IsSomeAnd (slice_get slots rows.slot) (λ slot. slot.number ≡ number)

-- The slot at the place of the rows is the session's.
abbrev pub IsOfSlot : List Slot → Session → SessionRows → Type 0
IsOfSlot slots session rows = IsAtSlot slots session.number rows

-- ---- what a thread is asked and hands back

abbrev pub start_of : Session → Start
start_of session = record { slot = session.number; party = session.party; numbers = session.numbers }

-- What was counted before, the events, and the slot of whose book they are steps.
abbrev pub asked : ℕ → List ℕ → Numbers → List Call → Numbers × List Event × ℕ
asked slot party start calls = (start, events_by party calls, slot)

abbrev pub asked_all : List Start → List SessionRows → List (Numbers × List Event × ℕ)
asked_all starts rows = map (λ p. asked p.0.slot p.0.party p.0.numbers p.1.calls.items) (zip starts rows)

abbrev pub sent_as : Sent → Numbers × List Event × ℕ
sent_as sent = (sent.start, events_of sent.receipts.items, sent.slot)

-- Each receipt that came back was one step of the book of that slot.
abbrev pub IsStepped : List Day → Sent → Type 0
IsStepped days sent = All (Stepped days sent.slot) sent.receipts.items
