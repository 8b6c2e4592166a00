-- Where a cycle is frozen it and each cycle before it were frozen, one that was skipped too: only a cycle in which a cut was declared can be skipped, and only of a frozen one a cut is declared.
use Rattle.std.proofs.Common.{◌≡◌, ℕ, suc, zero, ◌+◌, ◌<◌, ◌≤◌, Bool, true, false, length, get_or, take, slice_get, Some, None, refl, sym, subst, ◌∙◌, arith, cond, ◌⊎◌, inl, inr}
use Rattle.std.specs.Prelude.{nat_le}
use Rattle.std.proofs.lemmas.Bool.{false≢true, leb-true}
use Rattle.std.proofs.lemmas.Bool.Decides.{leb_tells}
use Rattle.std.proofs.lemmas.List.{take_all}
use Rattle.std.proofs.lemmas.List.Elements.{All-filter, filter_passes}
use Rattle.std.proofs.lemmas.Option.{slice_get_cases}
use Rattle.gd_rules.specs.Lines.{Nomination}
use Rattle.gd_machine.specs.declared.event.Event.{Event}
use Rattle.gd_machine.specs.declared.event.Event.TheVariants.{Nominate, Respond, PostCapacity, Freeze, Publish, Declare, Waive, Skip}
use Rattle.gd_machine.specs.declared.reply.Reply.{Reply}
use Rattle.gd_machine.specs.Day.{Day}
use Rattle.gd_machine.specs.History.{History, cycle_of, is_frozen, has_cut, ends_cycle, frozen_after, cut_after}
use Rattle.gd_machine.specs.Asking.{nominations, counted}
use Rattle.gd_machine.specs.Machine.{IsAccepted, IsLegal, tests_of}
use Rattle.gd_machine.specs.Headline.{IsAt, FrozenBefore, FreezesEach, AsksFrozen}
use Rattle.gd_machine.proofs.Counting.{cycle_more}
use Rattle.gd_machine.proofs.Legal.{all_false, not_false}
use Rattle.gd_machine.proofs.Nominations.{prefix_in_day}
use Rattle.gd_machine.proofs.Steps.{frozen_more, cut_more}
use Rattle.gd_machine.proofs.Times.{taken}

module _ (day : Day) (h : History) (legal : IsLegal day h) where
  -- after so many events, in this cycle, frozen or not, with a cut declared or not: the cycles before it were frozen, and so was it where it is or has a cut
  abbrev Freezes : ℕ → ℕ → Bool → Bool → Type 0
  Freezes n cycle frozen cut =
      ((former : ℕ) → 1 ≤ former → former < cycle → FrozenBefore h n former)
      × (frozen ≡ true → FrozenBefore h n cycle)
      × (cut ≡ true → FrozenBefore h n cycle)

  later : (n cycle : ℕ) → FrozenBefore h n cycle → FrozenBefore h (suc n) cycle
  later n cycle w = (w.0, w.1, w.2, (let within : w.0 < n = w.3 in omega (arith, within)), w.4, w.5)

  of_cycle : (n c d : ℕ) → c ≡ d → FrozenBefore h n c → FrozenBefore h n d
  of_cycle n c d e = subst (FrozenBefore h n) e

  moved : (n c d : ℕ) (f g u v : Bool) → d ≡ c → g ≡ f → v ≡ u → Freezes n c f u → Freezes n d g v
  moved n c d f g u v cycle frozen cut w =
      subst (λ x. Freezes n x g v) (sym cycle) (subst (λ x. Freezes n c x v) (sym frozen) (subst (Freezes n c f) (sym cut) w))

  -- the cycle goes on
  stays : (n c : ℕ) (f u : Bool) → Freezes n c f u → Freezes (suc n) (c + 0) f u
  stays n c f u w =
      let same : c ≡ c + 0 = omega arith in (
        λ former low below. later n former (w.0 former low (omega (arith, below))),
        λ is. of_cycle (suc n) c (c + 0) same (later n c (w.1 is)),
        λ is. of_cycle (suc n) c (c + 0) same (later n c (w.2 is)),
      )

  -- a cycle that was frozen ends
  ends : (n c : ℕ) (f u g : Bool) → g ≡ false → Freezes n c f u → FrozenBefore h n c → Freezes (suc n) (c + 1) g false
  ends n c f u g off w this = (
    λ former low below. later n former (elim (leb_tells c former) as (λ m. FrozenBefore h n former) [
      | inl high ↦ (let top : c ≤ former = high.1 in of_cycle n c former (omega (arith, below, top)) this)
      | inr under ↦ w.0 former low under.1
    ]),
    λ is. absurd (false≢true (sym off ∙ is)),
    λ is. absurd (false≢true is),
  )

  step : (n : ℕ) (p : Event × Reply) → IsAt h n p → IsAccepted day (take n h) p → Freezes n (cycle_of (take n h)) (is_frozen (take n h)) (has_cut (take n h))
      → Freezes (suc n) (cycle_of (take n h) + cond (ends_cycle p.0) 1 0) (frozen_after (is_frozen (take n h)) p.0) (cut_after (has_cut (take n h)) p.0)
  step n (Freeze moment, reply) at accepted w =
      let g = stays n (cycle_of (take n h)) (is_frozen (take n h)) (has_cut (take n h)) w in
      let same : cycle_of (take n h) ≡ cycle_of (take n h) + 0 = omega arith in
      (g.0, λ is. (n, moment, reply, omega arith, at, same), g.2)
  step n (Publish moment certificate, reply) at accepted w =
      let tests = all_false (tests_of day (take n h) (Publish moment certificate)) accepted.0 in
      ends n (cycle_of (take n h)) (is_frozen (take n h)) (has_cut (take n h)) false refl w (w.1 (not_false (is_frozen (take n h)) tests.0))
  step n (Declare moment round cut, reply) at accepted w =
      let tests = all_false (tests_of day (take n h) (Declare moment round cut)) accepted.0 in
      let g = stays n (cycle_of (take n h)) (is_frozen (take n h)) (has_cut (take n h)) w in
      (g.0, λ is. absurd (false≢true is), λ is. g.1 (not_false (is_frozen (take n h)) tests.0))
  step n (Skip moment, reply) at accepted w =
      let tests = all_false (tests_of day (take n h) (Skip moment)) accepted.0 in
      ends n (cycle_of (take n h)) (is_frozen (take n h)) (has_cut (take n h)) (is_frozen (take n h)) tests.1.0 w (w.2 (not_false (has_cut (take n h)) tests.1.1.0))
  step n (Nominate moment party key quantity, reply) at accepted w = stays n (cycle_of (take n h)) (is_frozen (take n h)) (has_cut (take n h)) w
  step n (Respond moment party line end quantity, reply) at accepted w = stays n (cycle_of (take n h)) (is_frozen (take n h)) (has_cut (take n h)) w
  step n (PostCapacity moment element capacity, reply) at accepted w = stays n (cycle_of (take n h)) (is_frozen (take n h)) (has_cut (take n h)) w
  step n (Waive moment line, reply) at accepted w = stays n (cycle_of (take n h)) (is_frozen (take n h)) (has_cut (take n h)) w

  abbrev FreezesAt : ℕ → History → Type 0
  FreezesAt n g = Freezes n (cycle_of g) (is_frozen g) (has_cut g)

  more : (n : ℕ) → FreezesAt n (take n h) → FreezesAt (suc n) (take (suc n) h)
  more n w = go (slice_get_cases h n).1
    where
      go : ((p : Event × Reply) × (n < length h) × (slice_get h n ≡ Some p) × (get_or h n p ≡ p)) ⊎ ((length h ≤ n) × (slice_get h n ≡ None)) → FreezesAt (suc n) (take (suc n) h)
      go (inl q) =
          let p = q.0 in
          let after = moved (suc n) _ _ _ _ _ _ (cycle_more (take n h) p) (frozen_more (take n h) p) (cut_more (take n h) p) (step n p q.2 (legal n p q.2) w) in
          subst (FreezesAt (suc n)) (sym (taken h n p q.2)) after
      go (inr q) =
          let past : length h ≤ n = q.0 in
          let same : take n h ≡ take (suc n) h = take_all n h past ∙ sym (take_all (suc n) h (omega (arith, past))) in
          subst (FreezesAt (suc n)) same (λ former low below. later n former (w.0 former low below), λ is. later n _ (w.1 is), λ is. later n _ (w.2 is))

  freezes : (n : ℕ) → FreezesAt n (take n h)
  freezes zero = (λ former low below. absurd (none former low below), λ is. absurd (false≢true is), λ is. absurd (false≢true is))
    where
      none : (former : ℕ) → 1 ≤ former → former < 1 → ⊥
      none former low below = omega (arith, low, below)
  freezes (suc n) = more n (freezes n)

pub freezes_each : (day : Day) (h : History) → IsLegal day h → FreezesEach h
freezes_each day h legal k cycle frozen low top =
    elim (leb_tells (cycle_of (take k h)) cycle) as (λ m. FrozenBefore h k cycle) [
      | inl high ↦ (let above : cycle_of (take k h) ≤ cycle = high.1 in subst (FrozenBefore h k) (omega (arith, above, top)) ((freezes day h legal k).1 frozen))
      | inr under ↦ (freezes day h legal k).0 cycle low under.1
    ]

pub asks_frozen : (day : Day) (h : History) → IsLegal day h → AsksFrozen day h
asks_frozen day h legal k frozen i d within =
    let early = filter_passes (λ n. nat_le n.cycle (cycle_of (take k h))) (nominations day (take k h)) i d within in
    let in_day = All-filter (λ n. nat_le n.cycle (cycle_of (take k h))) (λ (n : Nomination). (1 ≤ n.cycle) × (n.cycle ≤ 5)) (nominations day (take k h)) (prefix_in_day day h legal k) i d within in
    let n : Nomination = get_or (counted day (take k h)) i d in
    freezes_each day h legal k n.cycle frozen in_day.0 (leb-true n.cycle (cycle_of (take k h)) early)
