use Rattle.std.proofs.Common.{◌≡◌, ◌≤◌, ℕ, zero, suc, ◌+◌, ◌<◌, [], ◌∷◌, Some, get_or, refl, ap, sym, ◌∙◌, rules, arith}
use Rattle.gd_rules.specs.GasDay.Mark.{Received}
use Rattle.gd_calendar.specs.Calendar.{due}
use Rattle.gd_calendar.proofs.Calendars.{cycle_first}
use Rattle.gd_calendar.proofs.calendar.Calendar.cycle_of.Goals as goal

-- the cycle at place k is that of number k + 1
numbered : (k d : ℕ) → k < 5 → get_or (1 ∷ 2 ∷ 3 ∷ 4 ∷ 5 ∷ []) k d ≡ k + 1
numbered zero d h = refl
numbered (suc zero) d h = refl
numbered (suc (suc zero)) d h = refl
numbered (suc (suc (suc zero))) d h = refl
numbered (suc (suc (suc (suc zero)))) d h = refl
numbered (suc (suc (suc (suc (suc k))))) d h = absurd (omega arith)

pub returns-then-le : goal.returns-then-le
returns-then-le c =
    let k = c.loop-cycle.cycle-index in
    let is = numbered k c.cycle-item.result c.loop-cycle-test.true in
    let in_time : c.args.moment ≤ c.time.result = search rules in
    let due_at : c.time.result ≡ due c.args.self.now (k + 1) Received = c.time.ensures ∙ ap (λ n. due c.args.self.now n Received) is in
    let here : c.args.moment ≤ due c.args.self.now (k + 1) Received = omega (arith, due_at, in_time) in
    ap Some is ∙ sym (cycle_first c.args.self.now c.args.moment (k + 1) (omega arith) (omega arith) (λ j low less. c.loop-cycle.invariant j low (omega arith)) here)
