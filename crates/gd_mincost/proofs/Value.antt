-- What a flow is worth, and how a push changes it.
use Rattle.std.proofs.Common.{◌≡◌, ◌≢◌, ℕ, zero, suc, ◌*◌, ◌-◌, ◌<◌, ◌≤◌, List, [], ◌∷◌, ◌++◌, length, slice_set, cond, Bool, true, false, refl, sym, ap, ◌∙◌, subst, arith, inl, inr}
use Rattle.std.specs.Prelude.{ℤ, pos, negsuc, ◌+ℤ◌, ◌-ℤ◌, ◌*ℤ◌, ◌≤ℤ◌, neg_ℤ, unsigned_abs}
use Rattle.std.specs.declared.cmp.Ordering.{Ordering}
use Rattle.std.specs.declared.cmp.Ordering.TheVariants.{Less, Equal, Greater}
use Rattle.std.specs.Ordering.{nat_cmp}
use Rattle.std.specs.Cmp.{ranked}
use Rattle.std.proofs.lemmas.Bool.{cases_eq}
use Rattle.std.proofs.lemmas.List.{get_or-set_other, length-set}
use Rattle.std.proofs.lemmas.Grind.{get_or-set_at}
use Rattle.std.proofs.Math.Nat.{suc-mul}
use borrow.Author.Differences.{ints}
use Rattle.gd_scale.specs.Scale.{Scale, repeated, multiple, total_below, AtMost, IsAbove}
use Rattle.gd_scale.specs.Laws.{IsLawful, IsBounded, IsRanked}
use Rattle.gd_scale.proofs.Group.{neutral_left, injective, at_most_turned, at_most_then, at_most_left, repeated_none, repeated_plus, repeated_up}
use Rattle.gd_scale.proofs.Multiples.{multiple_add}
use Rattle.gd_scale.proofs.Sums.{total_same}
use Rattle.gd_network.specs.Arcs.{Net}
use Rattle.gd_network.specs.Flow.{flow_at, IsWithin}
use Rattle.gd_network.specs.Beginning.{AreSound}
use Rattle.gd_network.specs.declared.walks.Step.{Step}
use Rattle.gd_network.specs.Steps.{moved, pushed, AreSteps}
use Rattle.gd_mincost.specs.Gains.{AreGains, gain_at, gained, gain_along, value}

module _ {V : Type 0} (s : Scale V) (l : IsLawful s) where
  pub gain_push : (gains : List V) (walk : List Step) (step : Step) → gain_along s gains (walk ++ step ∷ []) ≡ s.plus (gained s gains step) (gain_along s gains walk)
  gain_push gains [] step = refl
  gain_push gains (t ∷ walk) step =
      let x : V = gained s gains step in
      let y : V = gained s gains t in
      let w : V = gain_along s gains walk in
      ap (s.plus y) (gain_push gains walk step) ∙ sym (l.associates y x w) ∙ ap (λ v. s.plus v w) (l.commutes y x) ∙ l.associates x y w

  -- one summand is x more
  total_more : (n k : ℕ) (f g : ℕ → V) (x : V) → k < n → f k ≡ s.plus (g k) x → ((i : ℕ) → i ≢ k → f i ≡ g i) → total_below s n f ≡ s.plus (total_below s n g) x
  total_more zero k f g x h e other = absurd (omega arith)
  total_more (suc n) k f g x h e other = elim (cases_eq n k) [
    | inl same ↦
        ap (λ w. s.plus w (f n)) (total_same s l n f g (λ i j. other i (omega arith)))
        ∙ ap (s.plus (total_below s n g)) (ap f same ∙ e ∙ ap (λ m. s.plus (g m) x) (sym same))
        ∙ sym (l.associates (total_below s n g) (g n) x)
    | inr differs ↦
        ap (λ w. s.plus w (f n)) (total_more n k f g x (omega arith) e other)
        ∙ ap (s.plus (s.plus (total_below s n g) x)) (other n differs)
        ∙ l.associates (total_below s n g) x (g n)
        ∙ ap (s.plus (total_below s n g)) (l.commutes x (g n))
        ∙ sym (l.associates (total_below s n g) (g n) x)
  ]

  none_left : (d : ℕ) → neg_ℤ (pos d) +ℤ pos d ≡ pos 0
  none_left d = omega (arith, ints)

  turned : (d : ℕ) (x : V) → multiple s (neg_ℤ (pos d)) x ≡ repeated s d (s.minus x)
  turned d x =
      injective s l (multiple s (neg_ℤ (pos d)) x) (repeated s d (s.minus x)) (repeated s d x)
      (sym (multiple_add s l (neg_ℤ (pos d)) (pos d) x) ∙ ap (λ z. multiple s z x) (none_left d)
      ∙ sym (sym (repeated_plus s l d (s.minus x) x) ∙ ap (repeated s d) (l.commutes (s.minus x) x ∙ l.inverse x) ∙ repeated_none s l d))

  less_is : (f : ℤ) (d : ℕ) → f -ℤ pos d ≡ f +ℤ neg_ℤ (pos d)
  less_is f d = omega (arith, ints)

  moved_worth : (b : Bool) (f : ℤ) (d : ℕ) (x : V) → multiple s (cond b (f -ℤ pos d) (f +ℤ pos d)) x ≡ s.plus (multiple s f x) (repeated s d (cond b (s.minus x) x))
  moved_worth true f d x = ap (λ z. multiple s z x) (less_is f d) ∙ multiple_add s l f (neg_ℤ (pos d)) x ∙ ap (s.plus (multiple s f x)) (turned d x)
  moved_worth false f d x = multiple_add s l f (pos d) x

  step_worth : (gains : List V) (n : Net) (flow : List ℤ) (step : Step) (d : ℕ) → length flow ≡ length n → step.arc < length n
      → value s gains n (slice_set flow step.arc (moved flow step (pos d))) ≡ s.plus (value s gains n flow) (repeated s d (gained s gains step))
  step_worth gains n flow step d size h =
      let z : ℤ = moved flow step (pos d) in
      let new : List ℤ = slice_set flow step.arc z in
      let within : step.arc < length flow = omega arith in
      total_more (length n) step.arc (λ a. multiple s (flow_at new a) (gain_at s gains a)) (λ a. multiple s (flow_at flow a) (gain_at s gains a)) (repeated s d (gained s gains step)) h
      (ap (λ f. multiple s f (gain_at s gains step.arc)) (get_or-set_at flow step.arc step.arc z (pos 0) refl within) ∙ moved_worth step.back (flow_at flow step.arc) d (gain_at s gains step.arc))
      (λ a differs. ap (λ f. multiple s f (gain_at s gains a)) (get_or-set_other flow step.arc a z (pos 0) differs))

  -- A push adds the amount times what the walk gains.
  pub walk_worth : (gains : List V) (n : Net) (walk : List Step) (flow : List ℤ) (d : ℕ) → length flow ≡ length n → AreSteps n walk
      → value s gains n (pushed flow walk (pos d)) ≡ s.plus (value s gains n flow) (repeated s d (gain_along s gains walk))
  walk_worth gains n [] flow d size steps = sym (ap (s.plus (value s gains n flow)) (repeated_none s l d) ∙ l.neutral (value s gains n flow))
  walk_worth gains n (step ∷ walk) flow d size steps =
      let x : V = gained s gains step in
      let w : V = gain_along s gains walk in
      let new : List ℤ = slice_set flow step.arc (moved flow step (pos d)) in
      walk_worth gains n walk new d (length-set flow step.arc (moved flow step (pos d)) ∙ size) (λ k t h. steps (suc k) t (omega arith))
      ∙ ap (λ v. s.plus v (repeated s d w)) (step_worth gains n flow step d size (steps 0 step (omega arith)))
      ∙ l.associates (value s gains n flow) (repeated s d x) (repeated s d w)
      ∙ ap (s.plus (value s gains n flow)) (sym (repeated_plus s l d x w))

  -- ---- that is more

  surely : (r : Ordering) → ((r ≢ Greater) → ⊥) → r ≡ Greater
  surely Less h = absurd (h (λ e. cc))
  surely Equal h = absurd (h (λ e. cc))
  surely Greater h = refl

  greater_up : (r : Ordering) → r ≡ Greater → r ≢ Less
  greater_up Less e f = cc
  greater_up Equal e f = cc
  greater_up Greater e f = cc

  repeated_above : (d : ℕ) (x : V) → IsAbove s x s.none → IsAbove s (repeated s (suc d) x) s.none
  repeated_above d x h =
      surely (s.order (repeated s (suc d) x) s.none) (λ down.
      at_most_then s l x (repeated s (suc d) x) s.none
      (subst (λ w. AtMost s w (repeated s (suc d) x)) (neutral_left s l x)
      (at_most_left s l s.none (repeated s d x) x (repeated_up s l d x (at_most_turned s l s.none x (greater_up (s.order x s.none) h)))))
      down h)

  pub plus_above : (x y : V) → IsAbove s y s.none → IsAbove s (s.plus x y) x
  plus_above x y h = ap (λ w. s.order w x) (l.commutes x y) ∙ ap (s.order (s.plus y x)) (sym (neutral_left s l x)) ∙ l.kept y s.none x ∙ h

  counted : (z : ℤ) → pos 1 ≤ℤ z → (d : ℕ) × (z ≡ pos (suc d))
  counted (pos zero) h = absurd (omega (arith, ints))
  counted (pos (suc d)) h = (d, refl)
  counted (negsuc d) h = absurd (omega (arith, ints))

  -- A push of at least 1 along a walk that gains makes the flow worth more.
  pub push_rises : (gains : List V) (n : Net) (walk : List Step) (flow new : List ℤ) (amount : ℤ) → length flow ≡ length n → AreSteps n walk → pos 1 ≤ℤ amount → IsAbove s (gain_along s gains walk) s.none
      → new ≡ pushed flow walk amount → IsAbove s (value s gains n new) (value s gains n flow)
  push_rises gains n walk flow new amount size steps some gain is =
      let d = counted amount some in
      subst (λ xs. IsAbove s (value s gains n xs) (value s gains n flow)) (sym (is ∙ ap (pushed flow walk) d.1))
      (subst (λ w. IsAbove s w (value s gains n flow)) (sym (walk_worth gains n walk flow (suc d.0) size steps))
      (plus_above (value s gains n flow) (repeated s (suc d.0) (gain_along s gains walk)) (repeated_above d.0 (gain_along s gains walk) gain)))

-- ---- values that fit a bound have ranks

no_more : (n b : ℕ) → (pos (n * b) +ℤ pos b) ≤ℤ pos (suc n * b)
no_more n b = let e = suc-mul n b in omega (arith, ints, e)

module _ {V : Type 0} (s : Scale V) (fits : ℤ → V → Bool) (b : IsBounded s fits) where
  total_fits : (n m : ℕ) (f : ℕ → V) → ((i : ℕ) → i < n → fits (pos m) (f i) ≡ true) → fits (pos (n * m)) (total_below s n f) ≡ true
  total_fits zero m f h = b.wider (pos 0) (pos (0 * m)) s.none (omega (arith, ints)) b.none
  total_fits (suc n) m f h =
      b.wider (pos (n * m) +ℤ pos m) (pos (suc n * m)) (s.plus (total_below s n f) (f n)) (no_more n m)
      (b.plus (pos (n * m)) (pos m) (total_below s n f) (f n) (total_fits n m f (λ i k. h i (omega arith))) (h n (omega arith)))

  sized : (z : ℤ) → pos 0 ≤ℤ z → z ≤ℤ pos 1000000000 → (pos 16 *ℤ pos (unsigned_abs z)) ≤ℤ pos 16000000000
  sized (pos k) low high = let g : k ≤ 1000000000 = omega (arith, ints) in omega (arith, ints)
  sized (negsuc k) low high = absurd (omega (arith, ints))

  -- What a flow within bounds is worth fits 16 times 10^9 for each arc.
  pub value_fits : (nodes : ℕ) (n : Net) (gains : List V) (flow : List ℤ) → AreSound nodes n → AreGains s fits (length n) gains → IsWithin n flow → fits (pos (length n * 16000000000)) (value s gains n flow) ≡ true
  value_fits nodes n gains flow sound small within =
      total_fits (length n) 16000000000 (λ a. multiple s (flow_at flow a) (gain_at s gains a)) (λ a h.
      let low : pos 0 ≤ℤ flow_at flow a = (let p = sound.lower a h in let q = within.above a h in omega (arith, ints)) in
      let high : flow_at flow a ≤ℤ pos 1000000000 = (let p = sound.upper a h in let q = within.below a h in omega (arith, ints)) in
      b.wider (pos 16 *ℤ pos (unsigned_abs (flow_at flow a))) (pos 16000000000) (multiple s (flow_at flow a) (gain_at s gains a)) (sized (flow_at flow a) low high)
      (b.multiple (pos 16) (flow_at flow a) (gain_at s gains a) (small.small a h)))

rank_less : (a c : ℕ) → nat_cmp a c ≡ Greater → c < a
rank_less a c e = ranked a c Greater (sym e)

less_left : (size old new : ℕ) → old < new → new < size → size - new < size - old
less_left size old new h k = omega arith

-- What is left of the ranks falls as the value rises.
pub rank_falls : {V : Type 0} (s : Scale V) (fits : ℤ → V → Bool) (size : ℕ → ℕ) (rank : ℕ → V → ℕ) → IsRanked s fits size rank → (b : ℕ) (old new : V) → fits (pos b) old ≡ true → fits (pos b) new ≡ true → IsAbove s new old → size b - rank b new < size b - rank b old
rank_falls s fits size rank r b old new h k above =
    less_left (size b) (rank b old) (rank b new) (rank_less (rank b new) (rank b old) (r.in_order b new old k h ∙ above)) (r.below b new k)
