-- What the history of a book tells by itself: the list of accepted events with their replies, the first one first.
-- Each of these goes through the history from the first event on. What one event does to it is said beside it.
use Rattle.std.specs.Prelude.{ℕ, ◌+◌, ◌-◌, max, Bool, true, false, ◌==◌, ◌&&◌, List, [], ◌∷◌, ◌++◌, length, get_or, set, fold, Option, Some, None, if◌then◌else◌}
use Rattle.std.specs.List.{count_by}
use Rattle.gd_rules.specs.Question.{Element}
use Rattle.gd_rules.specs.Question.Element.{Pool}
use Rattle.gd_rules.specs.Schedule.{quantity}
use Rattle.gd_question.specs.InForce.{with_limit}
use Rattle.gd_units.specs.declared.service.End.{End}
use Rattle.gd_units.specs.declared.service.End.TheVariants.{Origin, Dest}
use Rattle.gd_machine.specs.declared.event.Event.{Event}
use Rattle.gd_machine.specs.declared.event.Event.TheVariants.{Nominate, Respond, PostCapacity, Freeze, Publish, Declare, Waive, Skip}
use Rattle.gd_machine.specs.declared.reply.Reply.{Reply}

abbrev pub History : Type 0
History = List (Event × Reply)

-- ---- time

abbrev pub moment_of : Event → ℕ
moment_of (Nominate moment party key quantity) = moment
moment_of (Respond moment party line end quantity) = moment
moment_of (PostCapacity moment element capacity) = moment
moment_of (Freeze moment) = moment
moment_of (Publish moment certificate) = moment
moment_of (Declare moment round cut) = moment
moment_of (Waive moment line) = moment
moment_of (Skip moment) = moment

-- The greatest moment of the accepted events.
abbrev pub last_stamp : History → ℕ
last_stamp h = fold (λ stamp p. max stamp (moment_of p.0)) 0 h

-- The stamp of an event (own): time never goes back.
abbrev pub stamp_of : History → Event → ℕ
stamp_of h event = max (last_stamp h) (moment_of event)

-- ---- the course of the day

-- What is published or skipped ends its cycle.
abbrev pub ends_cycle : Event → Bool
ends_cycle (Publish moment certificate) = true
ends_cycle (Skip moment) = true
ends_cycle event = false

abbrev pub is_freeze : Event → Bool
is_freeze (Freeze moment) = true
is_freeze event = false

-- The current cycle, and 6 once all five are settled.
abbrev pub cycle_of : History → ℕ
cycle_of h = 1 + count_by (λ p. ends_cycle p.0) h

-- The round of the freeze that stands, or of the last one.
abbrev pub round_of : History → ℕ
round_of h = count_by (λ p. is_freeze p.0) h

abbrev pub frozen_after : Bool → Event → Bool
frozen_after frozen (Freeze moment) = true
frozen_after frozen (Publish moment certificate) = false
frozen_after frozen (Declare moment round cut) = false
frozen_after frozen event = frozen

-- The last freeze was not yet answered by a schedule or a cut.
abbrev pub is_frozen : History → Bool
is_frozen h = fold (λ frozen p. frozen_after frozen p.0) false h

-- ---- what holds for one cycle: it is forgotten where the cycle ends

abbrev pub cut_after : Bool → Event → Bool
cut_after cut (Declare moment round set) = true
cut_after cut (Publish moment certificate) = false
cut_after cut (Skip moment) = false
cut_after cut event = cut

-- A cut was declared in the current cycle.
abbrev pub has_cut : History → Bool
has_cut h = fold (λ cut p. cut_after cut p.0) false h

abbrev pub waived_after : ℕ → Bool → Event → Bool
waived_after line waived (Waive moment other) = if other == line then true else waived
waived_after line waived (Publish moment certificate) = false
waived_after line waived (Skip moment) = false
waived_after line waived event = waived

-- The line was waived in the current cycle.
abbrev pub is_waived : History → ℕ → Bool
is_waived h line = fold (λ waived p. waived_after line waived p.0) false h

abbrev pub same_end : End → End → Bool
same_end Origin Origin = true
same_end Dest Dest = true
same_end end other = false

abbrev pub response_after : ℕ → End → Option ℕ → Event → Option ℕ
response_after line end response (Respond moment party other side quantity) = if (other == line) && same_end side end then Some quantity else response
response_after line end response (Publish moment certificate) = None
response_after line end response (Skip moment) = None
response_after line end response event = response

-- The last response of an end of a line in the current cycle, or none where it is silent.
abbrev pub response_of : History → ℕ → End → Option ℕ
response_of h line end = fold (λ response p. response_after line end response p.0) None h

-- ---- what stays

abbrev pub elements_after : List Element → Event → List Element
elements_after elements (PostCapacity moment element capacity) = set elements element.0 (with_limit (get_or elements element.0 (Pool 0)) capacity)
elements_after elements event = elements

-- These elements with the capacities that were posted last.
abbrev pub elements_in_force : List Element → History → List Element
elements_in_force elements h = fold (λ elements p. elements_after elements p.0) elements h

abbrev pub schedules_after : List (List ℕ) → Event → List (List ℕ)
schedules_after schedules (Publish moment certificate) = schedules ++ certificate.schedule ∷ []
schedules_after schedules (Skip moment) = schedules ++ get_or schedules (length schedules - 1) [] ∷ []
schedules_after schedules event = schedules

-- The schedules in effect by cycle: 0 stands for the time before Timely, when there is none. A cycle that was skipped keeps the former one.
abbrev pub schedules : History → List (List ℕ)
schedules h = fold (λ schedules p. schedules_after schedules p.0) ([] ∷ []) h

-- What a line is scheduled after a cycle: 0 where the schedule is older than the line.
abbrev pub scheduled : History → ℕ → ℕ → ℕ
scheduled h line cycle = quantity (get_or (schedules h) cycle []) line
