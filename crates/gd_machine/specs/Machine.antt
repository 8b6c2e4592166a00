-- The book of a gas day as a machine over its history: what each event is answered, and why it is refused.
use Rattle.std.specs.Prelude.{◌≡◌, ℕ, ◌+◌, ◌==◌, ◌&&◌, Bool, true, false, not, nat_le, nat_lt, List, [], ◌∷◌, ◌++◌, length, take, get_or, slice_get, is_some, Option, Some, None, Result, Ok, Err, if◌then◌else◌}
use Rattle.std.specs.Option.{is_none, unwrap_or}
use Rattle.std.specs.Result.{is_err}
use Rattle.gd_rules.specs.Limits.{cycles}
use Rattle.gd_rules.specs.Question.{Question}
use Rattle.gd_rules.specs.Question.Element.{Pool}
use Rattle.gd_rules.specs.Cut.{Side, must_leave, may_enter, can_leave}
use Rattle.gd_rules.specs.Lines as lines
use Rattle.gd_rules.specs.Lines.{Key, committed}
use Rattle.gd_units.specs.declared.service.End.{End}
use Rattle.gd_units.specs.declared.service.End.TheVariants.{Origin, Dest}
use Rattle.gd_system.specs.Pipeline.{Pipeline, same_name, elements_of, element_number, operator_at}
use Rattle.gd_system.specs.Route.{ends_of}
use Rattle.gd_system.specs.declared.part.Ends.{Ends}
use Rattle.gd_system.specs.declared.RouteFault.{RouteFault}
use Rattle.gd_contracts.specs.Holdings.{contract_named}
use Rattle.gd_contracts.specs.declared.contract.Contract.{Contract}
use Rattle.gd_lines.specs.Numbering.{nomination, numbered}
use Rattle.gd_question.specs.Posing.{Posed}
use Rattle.gd_question.specs.InForce.{limit_fault}
use Rattle.gd_certificate.specs.Checked.{IsRight}
use Rattle.gd_certificate.specs.Cutting.{Members, side_of}
use Rattle.gd_certificate.specs.declared.cut.CutFault.TheVariants.{Shape, NotCut}
use Rattle.std.specs.List.{position_or_len}
use Rattle.gd_machine.specs.declared.TheConstants.{MAX_EVENTS}
use Rattle.gd_machine.specs.declared.event.Event.{Event}
use Rattle.gd_machine.specs.declared.event.Event.TheVariants.{Nominate, Respond, PostCapacity, Freeze, Publish, Declare, Waive, Skip}
use Rattle.gd_machine.specs.declared.reply.Reply.{Reply}
use Rattle.gd_machine.specs.declared.reply.Reply.TheVariants.{Accepted, Done, Frozen as Froze, Published, Declared}
use Rattle.gd_machine.specs.declared.refusal.Refusal.{Refusal}
use Rattle.gd_machine.specs.declared.refusal.Refusal.TheVariants.{DayClosed, UnknownContract, NotShipper, Route, OverContract, TooManyLines, TooManyEvents, AllSettled, Frozen, UnknownLine, NotOperator, UnknownElement, IsPool, TooEarly, NotFrozen, StaleRound, OtherQuestion, NoCutProof, NoCut}
use Rattle.gd_machine.specs.Day.{Day, cycle_at, deadline}
use Rattle.gd_machine.specs.History.{History, stamp_of, cycle_of, round_of, is_frozen, has_cut}
use Rattle.gd_machine.specs.Asking.{nominations, key_of, line_count, question, bumped_lines}
use Rattle.gd_machine.specs.Same.{same_question}

-- ---- what the tests ask

-- All five cycles are over.
abbrev pub is_settled : History → Bool
is_settled h = nat_lt cycles (cycle_of h)

abbrev pub is_full : History → Bool
is_full h = nat_le MAX_EVENTS (length h)

-- The party is the shipper of the contract, if there is one.
abbrev pub is_shipper : Option Contract → List ℕ → Bool
is_shipper (Some contract) party = same_name party contract.shipper
is_shipper None party = false

abbrev pub limit_of : Option Contract → ℕ
limit_of (Some contract) = contract.quantity
limit_of None = 0

-- The cycle of a nomination that is made now: the first whose received time is not before its stamp.
abbrev pub cycle_now : Day → History → Event → ℕ
cycle_now day h event = unwrap_or (cycle_at day (stamp_of h event)) 0

-- What the contract's lines would be nominated last, together, with this nomination: a line's former quantity is replaced.
abbrev pub committed_with : Day → History → Key → ℕ → ℕ
committed_with day h key quantity = committed (nominations day h ++ nomination key 0 0 quantity ∷ []) key.contract

abbrev pub contract_of : Day → Key → Option Contract
contract_of day key = contract_named day.holdings.contracts key.contract

abbrev pub is_unknown_line : Day → History → ℕ → Bool
is_unknown_line day h line = nat_le (line_count day h) line

abbrev pub end_name : Key → End → List ℕ
end_name key Origin = key.origin
end_name key Dest = key.dest

abbrev pub operator_found : Pipeline → Option ℕ → Option (List ℕ)
operator_found p (Some e) = operator_at p e
operator_found p None = None

-- The operator of the point or pool of this name, if there is one.
abbrev pub operator_of : Pipeline → List ℕ → Option (List ℕ)
operator_of p name = operator_found p (element_number p name)

abbrev pub is_party : Option (List ℕ) → List ℕ → Bool
is_party (Some operator) party = same_name party operator
is_party None party = false

-- The party operates that end of the line.
abbrev pub is_operator : Day → History → ℕ → End → List ℕ → Bool
is_operator day h line end party = is_party (operator_of day.holdings.pipeline (end_name (key_of day h line) end)) party

-- One entry for each place, each point and each pool.
abbrev pub is_shaped : Pipeline → Members → Bool
is_shaped p cut = (length cut.places == length p.places) && ((length cut.points == length p.points) && (length cut.pools == length p.pools))

-- More must leave the set than the ways out and the lines that lead in allow.
abbrev pub is_cut : Question → Side → Bool
is_cut q side = nat_lt (may_enter q side + can_leave q side) (must_leave q side)

abbrev pub cuts : Posed → Members → Bool
cuts q cut = is_cut q.asked (side_of q.pipeline cut)

-- ---- refusals

-- The refusal of the ends, if no route leads from the one to the other.
abbrev pub route_tests : Result Ends RouteFault → List (Bool × Refusal)
route_tests (Ok ends) = []
route_tests (Err fault) = (true, Route fault) ∷ []

-- The refusals of an event in their order, each beside the test that it applies.
abbrev pub tests_of : Day → History → Event → List (Bool × Refusal)
tests_of day h (Nominate moment party key quantity) =
    (is_none (cycle_at day (stamp_of h (Nominate moment party key quantity))), DayClosed)
    ∷ (is_none (contract_of day key), UnknownContract)
    ∷ (not (is_shipper (contract_of day key) party), NotShipper)
    ∷ route_tests (ends_of day.holdings.pipeline key.origin key.dest)
    ++ (nat_lt (limit_of (contract_of day key)) (committed_with day h key quantity), OverContract)
    ∷ (is_err (numbered (nominations day h) key), TooManyLines)
    ∷ (is_full h, TooManyEvents) ∷ []
tests_of day h (Respond moment party line end quantity) =
    (is_settled h, AllSettled)
    ∷ (is_frozen h, Frozen)
    ∷ (is_unknown_line day h line, UnknownLine)
    ∷ (not (is_operator day h line end party), NotOperator)
    ∷ (is_full h, TooManyEvents) ∷ []
tests_of day h (PostCapacity moment element capacity) =
    (is_settled h, AllSettled)
    ∷ (is_frozen h, Frozen)
    ∷ (nat_le (length (elements_of day.holdings.pipeline)) element.0, UnknownElement)
    ∷ (is_some (limit_fault (get_or (elements_of day.holdings.pipeline) element.0 (Pool 0))), IsPool)
    ∷ (is_full h, TooManyEvents) ∷ []
tests_of day h (Freeze moment) =
    (is_settled h, AllSettled)
    ∷ (is_frozen h, Frozen)
    ∷ (nat_lt (stamp_of h (Freeze moment)) (deadline day (cycle_of h)), TooEarly)
    ∷ (is_full h, TooManyEvents) ∷ []
tests_of day h (Publish moment certificate) =
    (not (is_frozen h), NotFrozen)
    ∷ (not (certificate.question.round == round_of h), StaleRound (round_of h))
    ∷ (not (same_question certificate.question (question day h)), OtherQuestion)
    ∷ (is_full h, TooManyEvents) ∷ []
tests_of day h (Declare moment round cut) =
    (not (is_frozen h), NotFrozen)
    ∷ (not (round == round_of h), StaleRound (round_of h))
    ∷ (not (is_shaped day.holdings.pipeline cut), NoCutProof Shape)
    ∷ (not (cuts (question day h) cut), NoCutProof NotCut)
    ∷ (is_full h, TooManyEvents) ∷ []
tests_of day h (Waive moment line) =
    (is_settled h, AllSettled)
    ∷ (is_frozen h, Frozen)
    ∷ (not (has_cut h), NoCut)
    ∷ (is_unknown_line day h line, UnknownLine)
    ∷ (is_full h, TooManyEvents) ∷ []
tests_of day h (Skip moment) =
    (is_settled h, AllSettled)
    ∷ (is_frozen h, Frozen)
    ∷ (not (has_cut h), NoCut)
    ∷ (is_full h, TooManyEvents) ∷ []

-- The first whose test is true.
abbrev pub first : List (Bool × Refusal) → Option Refusal
first [] = None
first (test ∷ tests) = if test.0 then Some test.1 else first tests

-- The first refusal that applies.
abbrev pub refusal_of : Day → History → Event → Option Refusal
refusal_of day h event = first (tests_of day h event)

-- ---- replies

abbrev pub number_of : History → ℕ
number_of h = length h + 1

-- The number of the nomination's line: a new one gets the next.
abbrev pub line_number : Day → History → Key → ℕ
line_number day h key = position_or_len (lines.same_key key) (lines.lines_of (nominations day h))

-- What is answered where no refusal applies.
abbrev pub reply_of : Day → History → Event → Reply
reply_of day h (Nominate moment party key quantity) = Accepted (number_of h) (cycle_now day h (Nominate moment party key quantity)) (line_number day h key)
reply_of day h (Respond moment party line end quantity) = Done (number_of h)
reply_of day h (PostCapacity moment element capacity) = Done (number_of h)
reply_of day h (Freeze moment) = Froze (number_of h) (cycle_of h) (round_of h + 1) (line_count day h)
reply_of day h (Publish moment certificate) = Published (number_of h) (cycle_of h) (round_of h) (bumped_lines day h certificate.schedule)
reply_of day h (Declare moment round cut) = Declared (number_of h) (cycle_of h) (round_of h)
reply_of day h (Waive moment line) = Done (number_of h)
reply_of day h (Skip moment) = Done (number_of h)

-- ---- steps

-- No refusal applies, and the reply is the machine's.
abbrev pub IsAccepted : Day → History → Event × Reply → Type 0
IsAccepted day h p = (refusal_of day h p.0 ≡ None) × (p.1 ≡ reply_of day h p.0)

-- Each pair is the machine's accepted step after the pairs before it.
abbrev pub IsLegal : Day → History → Type 0
IsLegal day h = (k : ℕ) (p : Event × Reply) → slice_get h k ≡ Some p → IsAccepted day (take k h) p

-- What the type of a certificate keeps: it passed the check.
abbrev pub Passes : Event → Type 0
Passes (Publish moment certificate) = IsRight certificate
Passes event = Unit {0}

abbrev pub AllPass : History → Type 0
AllPass h = (k : ℕ) (p : Event × Reply) → slice_get h k ≡ Some p → Passes p.0
