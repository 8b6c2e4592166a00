-- A run of an office's phases, and what is told of it.
use Rattle.std.specs.Prelude.{◌≡◌, ℕ, ◌+◌, List, [], ◌∷◌, ◌++◌, length, map, vec_len}
use Rattle.std.specs.List.{All, AllZip, flat_map}
use Rattle.gd_desk.specs.declared.desk.Desk.{Desk}
use Rattle.gd_desk.specs.Desks.{AreDesks}
use Rattle.gd_machine.specs.Day.{Day}
use Rattle.gd_office_part.specs.declared.kept.Receipt.{Receipt}
use Rattle.gd_office_part.specs.declared.numbers.Numbers.{Numbers}
use Rattle.gd_office_part.specs.Seen.{Session}
use Rattle.gd_office_part.specs.declared.threads.Phase.{Phase}
use Rattle.gd_office_part.specs.declared.threads.SessionRows.{SessionRows}
use Rattle.gd_office_part.specs.Counting.{none, counted_all}
use Rattle.gd_office_part.specs.Sending.{events_of, events_by}
use Rattle.gd_office_part.specs.StepResults.{Stepped}
use Rattle.gd_office_run.specs.Desks.{desk_rows}
use Rattle.gd_office_run.specs.Receipts.{sessions_rows}
use Rattle.gd_replies.specs.declared.reply.Reply.{Reply}

-- A session that is opened for rows: of their slot, by their party, with nothing counted.
abbrev pub opened : Session → ℕ × List ℕ × Numbers
opened s = (s.number, s.party, s.numbers)

abbrev pub asked : SessionRows → ℕ × List ℕ × Numbers
asked r = (r.slot + 1, r.party, none)

-- Of each session there is a list, with one receipt of each of its calls in their order, which has that call's event by the session's party.
abbrev pub AreOfCalls : List SessionRows → List (List Receipt) → Type 0
AreOfCalls rows lists = map events_of lists ≡ map (λ r. events_by r.party r.calls.items) rows

-- Each of these receipts was one step of the book of its session's slot. Rows count slots from 0.
abbrev pub AreSteps : List Day → List SessionRows → List (List Receipt) → Type 0
AreSteps days rows lists = AllZip (λ r receipts. All (Stepped days (r.slot + 1)) receipts) rows lists

-- The receipts of the calls of sessions.
abbrev pub AreReceipts : List Day → List SessionRows → List (List Receipt) → Type 0
AreReceipts days rows lists = AreOfCalls rows lists × AreSteps days rows lists

-- What the sessions of these lists counted.
abbrev pub counts_of : List (List Receipt) → List Numbers
counts_of lists = map (counted_all none) lists

-- A phase gives the receipts of its sessions, and a desk of its moment for each slot, by a book with the slot's opening values.
abbrev pub Gives : List Day → ℕ → Phase → List (List Receipt) → List Desk → Type 0
Gives days slots p lists desks = AreReceipts days p.sessions.items lists × AreDesks days p.moment desks × (length desks ≡ slots)

abbrev pub desk_rows_of : ℕ → Desk → List Reply
desk_rows_of slot d = desk_rows slot d.froze d.question d.closed

-- The desks of slots that are numbered from this one on.
abbrev pub desks_rows : ℕ → List Desk → List Reply
desks_rows slot [] = []
desks_rows slot (d ∷ desks) = desk_rows_of slot d ++ desks_rows (slot + 1) desks

-- What is told of a phase whose first session has this number: the receipts by session, then the desks by slot.
abbrev pub phase_rows : ℕ → List (List Receipt) → List Desk → List Reply
phase_rows first lists desks = sessions_rows first lists ++ desks_rows 1 desks

-- What a phase gave, whose first session has this number.
pub record Outcome : Type 0 where
  pub first : ℕ
  pub phase : Phase
  pub lists : List (List Receipt)
  pub desks : List Desk

abbrev pub HasGiven : List Day → ℕ → Outcome → Type 0
HasGiven days slots o = Gives days slots o.phase o.lists o.desks

-- The sessions count from this number on, over all phases.
abbrev pub AreNumbered : ℕ → List Outcome → Type 0
AreNumbered first [] = Unit {0}
AreNumbered first (o ∷ os) = (o.first ≡ first) × AreNumbered (first + vec_len o.phase.sessions) os

-- What each of these phases gave, in order, with sessions that count from 1 over all of them.
abbrev pub IsRun : List Day → ℕ → List Phase → List Outcome → Type 0
IsRun days slots phases os = (map (λ o. o.phase) os ≡ phases) × AreNumbered 1 os × All (HasGiven days slots) os

abbrev pub outcome_rows : Outcome → List Reply
outcome_rows o = phase_rows o.first o.lists o.desks

abbrev pub run_rows : List Outcome → List Reply
run_rows os = flat_map outcome_rows os
