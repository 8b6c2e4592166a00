-- What holds of no events, and is kept by each accepted one, holds after any number of events.
use Rattle.std.proofs.Common.{◌≡◌, ℕ, zero, suc, ◌<◌, ◌≤◌, [], ◌∷◌, ◌++◌, length, get_or, take, slice_get, Some, None, sym, subst, arith, ◌⊎◌, inl, inr}
use Rattle.std.proofs.lemmas.List.{take_all}
use Rattle.std.proofs.lemmas.Option.{slice_get_cases}
use Rattle.gd_machine.specs.declared.event.Event.{Event}
use Rattle.gd_machine.specs.declared.reply.Reply.{Reply}
use Rattle.gd_machine.specs.Day.{Day}
use Rattle.gd_machine.specs.History.{History}
use Rattle.gd_machine.specs.Machine.{IsAccepted, IsLegal}
use Rattle.gd_machine.proofs.Times.{taken}

module _ (day : Day) (h : History) (legal : IsLegal day h) (Holds : History → Type 0) (none : Holds [])
    (more : (k : ℕ) (p : Event × Reply) → slice_get h k ≡ Some p → IsAccepted day (take k h) p → Holds (take k h) → Holds (take k h ++ p ∷ [])) where
  step : (n : ℕ) → Holds (take n h) → Holds (take (suc n) h)
  step n before = go (slice_get_cases h n).1
    where
      go : ((p : Event × Reply) × (n < length h) × (slice_get h n ≡ Some p) × (get_or h n p ≡ p)) ⊎ ((length h ≤ n) × (slice_get h n ≡ None)) → Holds (take (suc n) h)
      go (inl q) = subst Holds (sym (taken h n q.0 q.2)) (more n q.0 q.2 (legal n q.0 q.2) before)
      go (inr q) =
          let same : take n h ≡ h = take_all n h q.0 in
          let next : take (suc n) h ≡ h = take_all (suc n) h (omega (arith, q.0)) in
          subst Holds (sym next) (subst Holds same before)

  pub after_each : (n : ℕ) → Holds (take n h)
  after_each zero = none
  after_each (suc n) = step n (after_each n)
