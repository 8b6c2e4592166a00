-- The tables after a freeze.
use Rattle.std.proofs.Common.{◌≡◌, ℕ, ◌+◌, ◌≤◌, max, [], ◌∷◌, ◌++◌, length, get_or, Some, None, refl, sym, ap, ◌∙◌, arith}
use Rattle.std.specs.Prelude.{if◌then◌else◌}
use Rattle.std.proofs.lemmas.Bool.{ltb-false}
use Rattle.std.proofs.lemmas.List.{append-nil}
use Rattle.std.proofs.lemmas.List.Sums.{sum_by-append}
use Rattle.gd_rules.specs.Lines.{until}
use Rattle.gd_system.specs.Pipeline.{elements_of}
use Rattle.gd_question.specs.Posing.{Posed}
use Rattle.gd_machine.specs.declared.event.Event.{Event}
use Rattle.gd_machine.specs.declared.event.Event.TheVariants.{Freeze}
use Rattle.gd_machine.specs.declared.reply.Reply.{Reply}
use Rattle.gd_machine.specs.Day.{Day}
use Rattle.gd_machine.specs.History.{History, cycle_of, round_of}
use Rattle.gd_machine.specs.Sessions.{is_session_call, session_calls}
use Rattle.gd_machine.specs.Asking.{nominations, counted, question}
use Rattle.gd_machine.specs.Machine.{tests_of, refusal_of}
use Rattle.gd_machine.proofs.Legal.{all_false}
use Rattle.gd_machine.proofs.Steps.{stamp_more, frozen_more, cut_more, waived_more, response_more, elements_more, schedules_more}
use Rattle.gd_machine.proofs.Nominations.{nominations_more}
use Rattle.gd_machine.proofs.Counting.{cycle_more, round_more}
use Rattle.gd_machine.proofs.Staying.{question_from}
use Rattle.gd_book_part.specs.LineConfirmations.{nothing}
use Rattle.gd_book_part.specs.Kept.{AreTablesOf}
use Rattle.gd_book_part.specs.declared.tables.Tables.{Tables}
use Rattle.gd_book_part.proofs.NextEvent.{level, not_full, longer, few_on, cycle_on, settled_on, few_calls_on, effect_on, lines_on, sized_on, accepted_on, nominated_on, tells_on}

-- a freeze asks the question of the current cycle in a new round
question_frozen : (day : Day) (h : History) (moment : ℕ) (reply : Reply) → question day (h ++ (Freeze moment, reply) ∷ []) ≡ record (question day h) { round = round_of h + 1 }
question_frozen day h moment reply =
    let p : Event × Reply = (Freeze moment, reply) in
    let cycle : cycle_of (h ++ p ∷ []) ≡ cycle_of h = level (cycle_of h) (cycle_more h p) in
    let round : round_of (h ++ p ∷ []) ≡ round_of h + 1 = round_more h p in
    let elements = elements_more (elements_of day.holdings.pipeline) h p in
    let same : nominations day (h ++ p ∷ []) ≡ nominations day h = nominations_more day h p ∙ append-nil (nominations day h) in
    let counting : counted day (h ++ p ∷ []) ≡ counted day h = λ i. until (cycle i) (same i) in
    let in_effect = schedules_more h p in
    λ i. question_from day (cycle i) (round i) (elements i) (counting i) (in_effect i) (λ line end. response_more line end h p i) (λ line. waived_more line h p i)

calls_frozen : (h : History) (moment : ℕ) (reply : Reply) → session_calls (h ++ (Freeze moment, reply) ∷ []) ≡ session_calls h
calls_frozen h moment reply = level (session_calls h) (sum_by-append (λ (q : Event × Reply). if is_session_call q.0 then 1 else 0) h ((Freeze moment, reply) ∷ []))

pub freeze_more : (day : Day) (h : History) (moment : ℕ) (reply : Reply) (s : Tables) (stamp : ℕ) (q : Posed) → stamp ≡ max s.stamp moment → AreTablesOf day s h → refusal_of day h (Freeze moment) ≡ None
    → q ≡ record (question day h) { round = round_of h + 1 }
    → AreTablesOf day (record s { stamp = stamp; round = s.round + 1; frozen = Some q }) (h ++ (Freeze moment, reply) ∷ [])
freeze_more day h moment reply s stamp q is kept none asked =
    let p : Event × Reply = (Freeze moment, reply) in
    let tests = all_false (tests_of day h (Freeze moment)) none in
    let short = not_full h tests.1.1.1.0 in
    let some : cycle_of h ≤ 5 = ltb-false 5 (cycle_of h) tests.0 in
    let cycle : cycle_of (h ++ p ∷ []) ≡ cycle_of h = cycle_on day h p s kept short refl in
    let round : round_of (h ++ p ∷ []) ≡ round_of h + 1 = round_more h p in
    record {
      stamp = is ∙ ap (λ n. max n moment) kept.stamp ∙ sym (stamp_more h p);
      cycle = kept.cycle ∙ sym cycle;
      round = ap (λ n. n + 1) kept.round ∙ sym round;
      cut = kept.cut ∙ sym (cut_more h p);
      frozen = (frozen_more h p, asked ∙ sym (question_frozen day h moment reply));
      lines = lines_on day h p s kept short refl;
      sized = sized_on day h p s kept short refl;
      confirmed = λ line. tells_on day h p s kept short refl line (λ end. response_more line end h p) (waived_more line h p) (get_or s.confirmations.items line nothing) (kept.confirmed line);
      limited = kept.limited;
      in_force = kept.in_force ∙ sym (elements_more (elements_of day.holdings.pipeline) h p);
      in_effect = effect_on day h p s kept short refl (schedules_more h p);
      five = kept.five;
      counted = ap length (schedules_more h p) ∙ kept.counted ∙ sym cycle;
      before = ap (λ ss. get_or ss 0 []) (schedules_more h p) ∙ kept.before;
      accepted = accepted_on day h p s kept short refl;
      small = kept.small;
      few_nominations = nominated_on day h p s kept short;
      calls = kept.calls ∙ sym (calls_frozen h moment reply);
      few_calls = (let k = few_calls_on day h p s kept short in omega (arith, k));
      few = few_on day h p s kept short;
      settled = settled_on day h p s kept short refl;
      running = λ frozen. omega (arith, cycle, some);
      few_rounds = (let k = kept.few_rounds in let l = longer day h p s kept short in omega (arith, round, k, l));
    }
