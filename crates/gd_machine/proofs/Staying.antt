-- A nomination that comes in while a cycle is frozen is for a later one, and leaves the frozen question as it is.
use Rattle.std.proofs.Common.{◌≡◌, ℕ, ◌+◌, ◌-◌, ◌<◌, ◌≤◌, Bool, true, List, [], ◌∷◌, ◌++◌, length, map, take, get_or, Option, Some, sym, ap, ◌∙◌, arith}
use Rattle.std.specs.Prelude.{if◌then◌else◌, ◌==◌}
use Rattle.std.specs.List.{range_with_len}
use Rattle.std.proofs.lemmas.Bool.{false≢true, ltb-false}
use Rattle.gd_rules.specs.Bounds as bounds
use Rattle.gd_rules.specs.GasDay as gas_day
use Rattle.gd_rules.specs.Question.{Element, Line}
use Rattle.gd_rules.specs.Schedule.{quantity}
use Rattle.gd_rules.specs.Lines.{Key, Nomination, until, lines_of, line_key, of_line, last_quantity}
use Rattle.gd_units.specs.declared.service.End.{End}
use Rattle.gd_units.specs.declared.service.End.TheVariants.{Origin, Dest}
use Rattle.gd_system.specs.Pipeline.{elements_of}
use Rattle.gd_system.specs.Route.{ends_of}
use Rattle.gd_question.specs.Posing.{Posed}
use Rattle.gd_machine.specs.declared.event.Event.{Event}
use Rattle.gd_machine.specs.declared.event.Event.TheVariants.{Nominate, Respond, PostCapacity, Freeze, Publish, Declare, Waive, Skip}
use Rattle.gd_machine.specs.declared.reply.Reply.{Reply}
use Rattle.gd_machine.specs.Day.{Day, IsDay, cycle_at, deadline, carried, length_of}
use Rattle.gd_machine.specs.History.{History, last_stamp, stamp_of, cycle_of, round_of, is_frozen}
use Rattle.gd_machine.specs.Asking.{nominations, counted, class_in, line_over, question}
use Rattle.gd_machine.specs.Machine.{IsAccepted, IsLegal, tests_of}
use Rattle.gd_machine.proofs.Steps.{stamp_more, frozen_more, response_more, waived_more, elements_more, schedules_more}
use Rattle.gd_machine.proofs.Legal.{all_false}
use Rattle.gd_machine.proofs.Times.{stays}
use Rattle.gd_machine.proofs.FrozenIntakes.{after_deadline}
use Rattle.gd_machine.proofs.Counting.{cycle_more, round_more}
use Rattle.gd_machine.proofs.Prefixes.{after_each}

-- from a stamp on every nomination is for a cycle after the current one
abbrev pub IsPast : Day → History → Type 0
IsPast day h = (stamp cycle : ℕ) → last_stamp h ≤ stamp → cycle_at day stamp ≡ Some cycle → cycle_of h < cycle

-- so it is while a cycle is frozen
abbrev pub FrozenPast : Day → History → Type 0
FrozenPast day h = is_frozen h ≡ true → IsPast day h

module _ (day : Day) (is_day : IsDay day) where
  -- an event that leaves the cycle as it is, and does not freeze it
  goes_on : (h : History) (p : Event × Reply) → is_frozen (h ++ p ∷ []) ≡ is_frozen h → cycle_of (h ++ p ∷ []) ≡ cycle_of h + 0 → FrozenPast day h → FrozenPast day (h ++ p ∷ [])
  goes_on h p same cycle before frozen stamp c on e =
      let now : last_stamp (h ++ p ∷ []) ≡ stamp_of h p.0 = stamp_more h p in
      let b = before (sym same ∙ frozen) stamp c (omega (arith, on, now)) e in
      omega (arith, b, cycle)

  past_freeze : (h : History) (moment : ℕ) (reply : Reply) → IsAccepted day h (Freeze moment, reply) → IsPast day (h ++ (Freeze moment, reply) ∷ [])
  past_freeze h moment reply accepted stamp c on e =
      let tests = all_false (tests_of day h (Freeze moment)) accepted.0 in
      let top : cycle_of h ≤ 5 = ltb-false 5 (cycle_of h) tests.0 in
      let due_now : deadline day (cycle_of h) ≤ stamp_of h (Freeze moment) = ltb-false (stamp_of h (Freeze moment)) (deadline day (cycle_of h)) tests.1.1.0 in
      let now : last_stamp (h ++ (Freeze moment, reply) ∷ []) ≡ stamp_of h (Freeze moment) = stamp_more h (Freeze moment, reply) in
      let past = after_deadline day is_day (cycle_of h) top stamp c (omega (arith, on, now, due_now)) e in
      let cycle = cycle_more h (Freeze moment, reply) in
      omega (arith, past, cycle)

  past_step : (h : History) (p : Event × Reply) → IsAccepted day h p → FrozenPast day h → FrozenPast day (h ++ p ∷ [])
  past_step h (Freeze moment, reply) accepted before = λ frozen. past_freeze h moment reply accepted
  past_step h (Publish moment certificate, reply) accepted before = λ frozen. absurd (false≢true (sym (frozen_more h (Publish moment certificate, reply)) ∙ frozen))
  past_step h (Declare moment round cut, reply) accepted before = λ frozen. absurd (false≢true (sym (frozen_more h (Declare moment round cut, reply)) ∙ frozen))
  past_step h (Skip moment, reply) accepted before = λ frozen.
      let tests = all_false (tests_of day h (Skip moment)) accepted.0 in
      absurd (false≢true (sym tests.1.0 ∙ sym (frozen_more h (Skip moment, reply)) ∙ frozen))
  past_step h (Nominate moment party key quantity, reply) accepted before = goes_on h (Nominate moment party key quantity, reply) (frozen_more h (Nominate moment party key quantity, reply)) (cycle_more h (Nominate moment party key quantity, reply)) before
  past_step h (Respond moment party line end quantity, reply) accepted before = goes_on h (Respond moment party line end quantity, reply) (frozen_more h (Respond moment party line end quantity, reply)) (cycle_more h (Respond moment party line end quantity, reply)) before
  past_step h (PostCapacity moment element capacity, reply) accepted before = goes_on h (PostCapacity moment element capacity, reply) (frozen_more h (PostCapacity moment element capacity, reply)) (cycle_more h (PostCapacity moment element capacity, reply)) before
  past_step h (Waive moment line, reply) accepted before = goes_on h (Waive moment line, reply) (frozen_more h (Waive moment line, reply)) (cycle_more h (Waive moment line, reply)) before

  pub frozen_past : (h : History) → IsLegal day h → (n : ℕ) → FrozenPast day (take n h)
  frozen_past h legal n = after_each day h legal (FrozenPast day) (λ frozen. absurd (false≢true frozen)) (λ k p at accepted before. past_step (take k h) p accepted before) n

-- ---- the question by what it rests on

module _ (day : Day) (cycle round : ℕ) (elements : List Element) (counting : List Nomination) (in_effect : List (List ℕ)) (response : ℕ → End → Option ℕ) (waived : ℕ → Bool) where
  abbrev key_at : ℕ → Key
  key_at line = line_key counting line

  abbrev scheduled_at : ℕ → ℕ → ℕ
  scheduled_at line c = quantity (get_or in_effect c []) line

  abbrev former_at : ℕ → ℕ
  former_at line = if cycle == 1 then carried day (key_at line) else scheduled_at line (cycle - 1)

  abbrev elapsed_at : ℕ → ℕ
  elapsed_at line = bounds.elapsed gas_day.hours_over (length_of day) (scheduled_at line) cycle

  abbrev confirmed_at : ℕ → ℕ
  confirmed_at line = bounds.confirmed cycle (last_quantity (of_line (key_at line) counting)) (response line Origin) (response line Dest) (former_at line) (elapsed_at line)

  abbrev floor_at : ℕ → ℕ
  floor_at line = bounds.line_floor cycle (class_in day (key_at line)) (waived line) (elapsed_at line) (former_at line) (confirmed_at line)

  abbrev line_at : ℕ → Line
  line_at line = line_over day.holdings.pipeline (ends_of day.holdings.pipeline (key_at line).origin (key_at line).dest) (class_in day (key_at line)) (floor_at line) (confirmed_at line)

  abbrev pub question_from : Posed
  question_from = record {
    pipeline = day.holdings.pipeline;
    asked = record { elements = elements; lines = map line_at (range_with_len 0 (length (lines_of counting))) };
    book = day.name;
    cycle = cycle;
    round = round;
  }

level : {a : ℕ} (b : ℕ) → a ≡ b + 0 → a ≡ b
level b e = omega (arith, e)

pub question_stays : (day : Day) (h : History) (moment : ℕ) (party : List ℕ) (key : Key) (amount : ℕ) (reply : Reply) → IsAccepted day h (Nominate moment party key amount, reply) → IsPast day h
    → question day (h ++ (Nominate moment party key amount, reply) ∷ []) ≡ question day h
question_stays day h moment party key amount reply accepted past =
    let p : Event × Reply = (Nominate moment party key amount, reply) in
    let cycle = level (cycle_of h) (cycle_more h p) in
    let round = level (round_of h) (round_more h p) in
    let elements = elements_more (elements_of day.holdings.pipeline) h p in
    let counting : counted day (h ++ p ∷ []) ≡ counted day h = ap (λ c. until c (nominations day (h ++ p ∷ []))) cycle ∙ stays day h (cycle_of h) p accepted past in
    let in_effect = schedules_more h p in
    λ i. question_from day (cycle i) (round i) (elements i) (counting i) (in_effect i) (λ line end. response_more line end h p i) (λ line. waived_more line h p i)
