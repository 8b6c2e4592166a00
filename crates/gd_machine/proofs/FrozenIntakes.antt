-- The nominations that count in a frozen cycle are those of the whole history.
use Rattle.std.proofs.Common.{◌≡◌, ℕ, suc, zero, ◌+◌, ◌<◌, ◌≤◌, get_or, take, length, List, [], ◌∷◌, Some, refl, sym, subst, ap, ◌∙◌, arith}
use Rattle.std.proofs.lemmas.Bool.{ltb-false}
use Rattle.std.proofs.lemmas.List.{take_all, append-nil}
use Rattle.std.proofs.lemmas.List.Elements.{filter_map-append}
use Rattle.gd_rules.specs.GasDay.Mark.{Received}
use Rattle.gd_rules.specs.Lines.{until}
use Rattle.gd_calendar.specs.Calendar.{due, received_times}
use Rattle.gd_machine.specs.declared.event.Event.TheVariants.{Freeze}
use Rattle.gd_machine.specs.Day.{Day, IsDay, cycle_at, deadline}
use Rattle.gd_machine.specs.History.{History, cycle_of, last_stamp, stamp_of}
use Rattle.gd_machine.specs.Asking.{nominations, nomination_of}
use Rattle.gd_machine.specs.Machine.{IsLegal, tests_of}
use Rattle.gd_machine.specs.Headline.{ClosesIntakes}
use Rattle.gd_machine.proofs.Steps.{stamp_more}
use Rattle.gd_machine.proofs.Legal.{all_false}
use Rattle.gd_machine.proofs.Times.{later_cycle, taken, stays_for_good}
use Rattle.gd_machine.proofs.Closes.{received_past}

received_at : (moments : List ℕ) (i : ℕ) → i < 5 → get_or (received_times moments) i 0 ≡ due moments (i + 1) Received
received_at moments zero k = refl
received_at moments (suc zero) k = refl
received_at moments (suc (suc zero)) k = refl
received_at moments (suc (suc (suc zero))) k = refl
received_at moments (suc (suc (suc (suc zero)))) k = refl
received_at moments (suc (suc (suc (suc (suc i))))) k = absurd (omega (arith, k))

-- from the confirmation time of a cycle on, each stamp is of a later cycle
pub after_deadline : (day : Day) → IsDay day → (cycle : ℕ) → cycle ≤ 5 → (stamp c : ℕ) → deadline day cycle ≤ stamp → cycle_at day stamp ≡ Some c → cycle < c
after_deadline day is_day cycle top stamp c reached e =
    later_cycle (received_times day.moments) stamp cycle c
    (λ i less. subst (λ r. r < stamp) (sym (received_at day.moments i (omega (arith, less, top)))) (received_past day.moments is_day.calendar.count is_day.calendar.rises cycle (i + 1) stamp top (omega arith) (omega (arith, less)) reached)) e

pub closes_intakes : (day : Day) (h : History) → IsDay day → IsLegal day h → ClosesIntakes day h
closes_intakes day h is_day legal k moment reply at =
    let accepted = legal k (Freeze moment, reply) at in
    let tests = all_false (tests_of day (take k h) (Freeze moment)) accepted.0 in
    let top : cycle_of (take k h) ≤ 5 = ltb-false 5 (cycle_of (take k h)) tests.0 in
    let due_now : deadline day (cycle_of (take k h)) ≤ stamp_of (take k h) (Freeze moment) = ltb-false (stamp_of (take k h) (Freeze moment)) (deadline day (cycle_of (take k h))) tests.1.1.0 in
    let more = taken h k (Freeze moment, reply) at in
    let stamp : last_stamp (take (suc k) h) ≡ stamp_of (take k h) (Freeze moment) = ap last_stamp more ∙ stamp_more (take k h) (Freeze moment, reply) in
    let for_good = stays_for_good day h legal (cycle_of (take k h)) (suc k) (λ s x reached e. after_deadline day is_day (cycle_of (take k h)) top s x (omega (arith, reached, stamp, due_now)) e) (length h) in
    let whole : take (length h + suc k) h ≡ h = take_all (length h + suc k) h (omega arith) in
    let same : nominations day (take (suc k) h) ≡ nominations day (take k h) = ap (nominations day) more ∙ filter_map-append (nomination_of day) (take k h) ((Freeze moment, reply) ∷ []) ∙ append-nil (nominations day (take k h)) in
    sym (ap (until (cycle_of (take k h))) same) ∙ sym for_good.0 ∙ ap (λ g. until (cycle_of (take k h)) (nominations day g)) whole
