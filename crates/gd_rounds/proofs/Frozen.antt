-- A frozen cycle stays so until its question is answered.
use Rattle.std.proofs.Common.{◌≡◌, ℕ, zero, suc, ◌+◌, ◌-◌, ◌<◌, ◌≤◌, Bool, true, false, nat_le, [], ◌∷◌, ◌++◌, length, take, get_or, Some, None, Option, refl, sym, subst, ◌∙◌, arith, ◌⊎◌, inl, inr}
use Rattle.std.specs.Prelude.{slice_get}
use Rattle.std.proofs.lemmas.Bool.{false≢true, leb-true, leb-false}
use Rattle.std.proofs.lemmas.List.{take_all}
use Rattle.std.proofs.lemmas.Option.{slice_get_cases, slice_get_past}
use Rattle.gd_machine.specs.declared.event.Event.{Event}
use Rattle.gd_machine.specs.declared.event.Event.TheVariants.{Nominate, Respond, PostCapacity, Freeze, Publish, Declare, Waive, Skip}
use Rattle.gd_machine.specs.declared.reply.Reply.{Reply}
use Rattle.gd_machine.specs.Day.{Day}
use Rattle.gd_machine.specs.History.{History, cycle_of, is_frozen, round_of}
use Rattle.gd_machine.specs.Machine.{IsAccepted, IsLegal, tests_of}
use Rattle.gd_machine.proofs.Counting.{cycle_more, round_more}
use Rattle.gd_machine.proofs.Legal.{all_false}
use Rattle.gd_machine.proofs.Steps.{frozen_more}
use Rattle.gd_machine.proofs.Times.{taken}
use Rattle.gd_rounds.specs.Rounds.{answers, EndsRound, IsAnswered, IsFrozenIn, IsNamed, WasNeverFrozen}

-- the same cycle and round are frozen behind one event more
same : (h : History) (p : Event × Reply) (cycle : ℕ) (round : Option ℕ) → IsFrozenIn h cycle round → is_frozen (h ++ p ∷ []) ≡ true → cycle_of (h ++ p ∷ []) ≡ cycle_of h + 0 → round_of (h ++ p ∷ []) ≡ round_of h + 0 → IsFrozenIn (h ++ p ∷ []) cycle round
same h p cycle round was frozen cycles rounds =
    let cycle_is = was.cycle_is in
    let there : round_of (h ++ p ∷ []) ≡ round_of h = omega (arith, rounds) in
    record {
      frozen = frozen;
      cycle_is = omega (arith, cycles, cycle_is);
      round_is = subst (IsNamed round) (sym there) was.round_is;
    }

-- an event that is accepted, and doesn't answer the question, leaves it frozen
stays : (day : Day) (h : History) (p : Event × Reply) (cycle : ℕ) (round : Option ℕ) → IsAccepted day h p → answers p.0 ≡ false → IsFrozenIn h cycle round → IsFrozenIn (h ++ p ∷ []) cycle round
stays day h (Nominate moment party key quantity, reply) cycle round ok other was =
    let p : Event × Reply = (Nominate moment party key quantity, reply) in same h p cycle round was (frozen_more h p ∙ was.frozen) (cycle_more h p) (round_more h p)
stays day h (Respond moment party line end quantity, reply) cycle round ok other was =
    let p : Event × Reply = (Respond moment party line end quantity, reply) in same h p cycle round was (frozen_more h p ∙ was.frozen) (cycle_more h p) (round_more h p)
stays day h (PostCapacity moment element capacity, reply) cycle round ok other was =
    let p : Event × Reply = (PostCapacity moment element capacity, reply) in same h p cycle round was (frozen_more h p ∙ was.frozen) (cycle_more h p) (round_more h p)
stays day h (Waive moment line, reply) cycle round ok other was =
    let p : Event × Reply = (Waive moment line, reply) in same h p cycle round was (frozen_more h p ∙ was.frozen) (cycle_more h p) (round_more h p)
stays day h (Freeze moment, reply) cycle round ok other was =
    absurd (false≢true (sym (all_false (tests_of day h (Freeze moment)) ok.0).1.0 ∙ was.frozen))
stays day h (Skip moment, reply) cycle round ok other was =
    absurd (false≢true (sym (all_false (tests_of day h (Skip moment)) ok.0).1.0 ∙ was.frozen))
stays day h (Publish moment certificate, reply) cycle round ok other was = absurd (false≢true (sym other))
stays day h (Declare moment number cut, reply) cycle round ok other was = absurd (false≢true (sym other))

-- where no such round ends, no event left the cycle frozen in one
module _ (day : Day) (h : History) (legal : IsLegal day h) (cycle : ℕ) (round : Option ℕ) (none : (place : ℕ) → place ≤ length h → ¬ (EndsRound h cycle round place)) where
  past : (place : ℕ) → length h ≤ place → ¬ (IsFrozenIn (take place h) cycle round)
  past place far frozen =
      let whole : take place h ≡ take (length h) h = take_all place h far ∙ sym (take_all (length h) h (omega arith)) in
      let last : slice_get h (length h) ≡ None = slice_get_past h (length h) (omega arith) in
      none (length h) (omega arith) (subst (λ t. IsFrozenIn t cycle round) whole frozen, subst IsAnswered (sym last) tt)

  -- of the events that are left the next one answers the question, or leaves it frozen
  step : (place : ℕ) (p : Event × Reply) → place < length h → slice_get h place ≡ Some p → IsFrozenIn (take place h) cycle round → IsFrozenIn (take (suc place) h) cycle round
  step place p low at frozen = by (answers p.0) refl
    where
      by : (b : Bool) → answers p.0 ≡ b → IsFrozenIn (take (suc place) h) cycle round
      by true e = absurd (none place (omega (arith, low)) (frozen, subst IsAnswered (sym at) e))
      by false e = subst (λ t. IsFrozenIn t cycle round) (sym (taken h place p at)) (stays day (take place h) p cycle round (legal place p at) e frozen)

  there : (place : ℕ) → place < length h → (p : Event × Reply) × (slice_get h place ≡ Some p)
  there place low = go (slice_get_cases h place).1
    where
      go : ((p : Event × Reply) × (place < length h) × (slice_get h place ≡ Some p) × (get_or h place p ≡ p)) ⊎ ((length h ≤ place) × (slice_get h place ≡ None)) → (p : Event × Reply) × (slice_get h place ≡ Some p)
      go (inl q) = (q.0, q.2)
      go (inr q) = absurd (let far = q.0 in omega (arith, far, low))

  onward : (left place : ℕ) → place + left ≡ length h → ¬ (IsFrozenIn (take place h) cycle round)
  onward zero place sum frozen = past place (omega (arith, sum)) frozen
  onward (suc left) place sum frozen =
      let low : place < length h = omega (arith, sum) in
      let p = there place low in
      onward left (suc place) (omega (arith, sum)) (step place p.0 low p.1 frozen)

  pub never : WasNeverFrozen h cycle round
  never place frozen = by (nat_le (length h) place) refl
    where
      by : (b : Bool) → nat_le (length h) place ≡ b → ⊥
      by true e = past place (leb-true (length h) place e) frozen
      by false e = let low = leb-false (length h) place e in onward (length h - place) place (omega (arith, low)) frozen
