-- What a step changes.
use Rattle.std.proofs.Common.{◌≡◌, ◌≢◌, ℕ, zero, suc, ◌+◌, ◌<◌, ◌≤◌, List, ◌∷◌, length, Bool, true, false, get_or, slice_set, ℤ, pos, negsuc, ◌+ℤ◌, ◌-ℤ◌, ◌≤ℤ◌, ◌<ℤ◌, cond, inl, inr, drop, add-one, FitsSigned, refl, sym, ◌∙◌, ap, subst, arith}
use borrow.Author.Differences.{ints}
use lib.ListN.{get_or-eq_default}
use Rattle.std.proofs.lemmas.List.{get_or-set_other}
use Rattle.std.proofs.lemmas.Grind.{get_or-set_at}
use Rattle.std.proofs.lemmas.Bool.{cases_lt, cases_eq}
use Rattle.std.proofs.Math.Seq.{drop-cons}
use Rattle.std.specs.Int.{w64}
use Rattle.gd_scale.specs.Sum.{sum_nat, sum_int}
use Rattle.gd_network.specs.Arcs.{Net, no_arc, from_at, to_at, lower_at, upper_at}
use Rattle.gd_network.specs.Beginning.{AreSound}
use Rattle.gd_network.specs.declared.arcs.Arc.{Arc}
use Rattle.gd_network.specs.Flow.{flow_at, net}
use Rattle.gd_question.specs.Nodes.{inside_part, carried}
use Rattle.gd_scale.proofs.IntSums.{int_same}
use Rattle.gd_network.specs.declared.walks.Step.{Step}
use Rattle.gd_network.specs.Steps.{tail_of, head_of, room, moved, Follows, above_none, amiss}

-- two sums that differ at one number
sum_changed : (n k : ℕ) (f g : ℕ → ℤ) → k < n → ((i : ℕ) → i ≢ k → f i ≡ g i) → sum_int n f +ℤ g k ≡ sum_int n g +ℤ f k
sum_changed zero k f g h other = absurd (omega arith)
sum_changed (suc n) k f g h other = elim (cases_eq n k) [
  | inl e ↦
      let a : sum_int n f ≡ sum_int n g = int_same n f g (λ i j. other i (omega arith)) in
      let b : f n ≡ f k = ap f e in
      let c : g n ≡ g k = ap g e in
      omega (arith, ints, a, b, c)
  | inr e ↦
      let a : sum_int n f +ℤ g k ≡ sum_int n g +ℤ f k = sum_changed n k f g (omega arith) other in
      let b : f n ≡ g n = other n e in
      omega (arith, ints, a, b)
]

-- what one step carries
carried_more : (b s e : Bool) (f d x y : ℤ) → x +ℤ carried s e f ≡ y +ℤ carried s e (cond b (f -ℤ d) (f +ℤ d)) →
    x +ℤ inside_part (cond b e s) d ≡ y +ℤ inside_part (cond b s e) d
carried_more true true true f d x y h = omega (arith, ints)
carried_more true true false f d x y h = omega (arith, ints)
carried_more true false true f d x y h = omega (arith, ints)
carried_more true false false f d x y h = omega (arith, ints)
carried_more false true true f d x y h = omega (arith, ints)
carried_more false true false f d x y h = omega (arith, ints)
carried_more false false true f d x y h = omega (arith, ints)
carried_more false false false f d x y h = omega (arith, ints)

pick : (inside : ℕ → Bool) (b : Bool) (u w : ℕ) → inside (cond b u w) ≡ cond b (inside u) (inside w)
pick inside true u w = refl
pick inside false u w = refl

room_cases : (b b' : Bool) (d f l h : ℤ) → pos 0 ≤ℤ d → b ≢ b' → d ≤ℤ cond b' (f -ℤ l) (h -ℤ f) →
    d ≤ℤ cond b' (cond b (f -ℤ d) (f +ℤ d) -ℤ l) (h -ℤ cond b (f -ℤ d) (f +ℤ d))
room_cases true true d f l h p n q = absurd (n refl)
room_cases true false d f l h p n q = omega (arith, ints)
room_cases false true d f l h p n q = omega (arith, ints)
room_cases false false d f l h p n q = absurd (n refl)

above_falls : (x y : ℤ) → x ≤ℤ y → above_none x ≤ above_none y
above_falls (pos a) (pos b) h = omega (arith, ints)
above_falls (pos a) (negsuc b) h = absurd (omega (arith, ints))
above_falls (negsuc a) (pos b) h = omega arith
above_falls (negsuc a) (negsuc b) h = omega arith

above_nothing : (x : ℤ) → x ≤ℤ pos 0 → above_none x ≡ 0
above_nothing (pos a) h = omega (arith, ints)
above_nothing (negsuc a) h = refl

above_less : (x y : ℤ) → x <ℤ y → pos 0 <ℤ y → above_none x < above_none y
above_less (pos a) (pos b) h k = omega (arith, ints)
above_less (pos a) (negsuc b) h k = absurd (omega (arith, ints))
above_less (negsuc a) (pos b) h k = omega (arith, ints)
above_less (negsuc a) (negsuc b) h k = absurd (omega (arith, ints))

-- a step with room brings its arc no further from its bounds
nearer_cases : (b : Bool) (d f l h : ℤ) → pos 0 ≤ℤ d → d ≤ℤ cond b (f -ℤ l) (h -ℤ f) → amiss l h (cond b (f -ℤ d) (f +ℤ d)) ≤ amiss l h f
nearer_cases true d f l h p q =
    let a : above_none (l -ℤ (f -ℤ d)) ≡ 0 = above_nothing (l -ℤ (f -ℤ d)) (omega (arith, ints)) in
    let c : above_none ((f -ℤ d) -ℤ h) ≤ above_none (f -ℤ h) = above_falls ((f -ℤ d) -ℤ h) (f -ℤ h) (omega (arith, ints)) in
    omega (arith, a, c)
nearer_cases false d f l h p q =
    let a : above_none ((f +ℤ d) -ℤ h) ≡ 0 = above_nothing ((f +ℤ d) -ℤ h) (omega (arith, ints)) in
    let c : above_none (l -ℤ (f +ℤ d)) ≤ above_none (l -ℤ f) = above_falls (l -ℤ (f +ℤ d)) (l -ℤ f) (omega (arith, ints)) in
    omega (arith, a, c)

-- and one of at least 1 on an arc that is short brings it nearer
pub nearer_short : (d f l h : ℤ) → pos 0 <ℤ d → d ≤ℤ (h -ℤ f) → f <ℤ l → amiss l h (f +ℤ d) < amiss l h f
nearer_short d f l h p q r =
    let a : above_none ((f +ℤ d) -ℤ h) ≡ 0 = above_nothing ((f +ℤ d) -ℤ h) (omega (arith, ints)) in
    let c : above_none (l -ℤ (f +ℤ d)) < above_none (l -ℤ f) = above_less (l -ℤ (f +ℤ d)) (l -ℤ f) (omega (arith, ints)) (omega (arith, ints)) in
    omega (arith, a, c)

pub nearer_over : (d f l h : ℤ) → pos 0 <ℤ d → d ≤ℤ (f -ℤ l) → h <ℤ f → amiss l h (f -ℤ d) < amiss l h f
nearer_over d f l h p q r =
    let a : above_none (l -ℤ (f -ℤ d)) ≡ 0 = above_nothing (l -ℤ (f -ℤ d)) (omega (arith, ints)) in
    let c : above_none ((f -ℤ d) -ℤ h) < above_none (f -ℤ h) = above_less ((f -ℤ d) -ℤ h) (f -ℤ h) (omega (arith, ints)) (omega (arith, ints)) in
    omega (arith, a, c)

-- the number that a step's change leaves fits
pub step_fits : (b : Bool) (f d l h : ℤ) → FitsSigned w64 f → FitsSigned w64 l → FitsSigned w64 h → pos 0 ≤ℤ d → d ≤ℤ cond b (f -ℤ l) (h -ℤ f) → FitsSigned w64 (cond b (f -ℤ d) (f +ℤ d))
step_fits true f d l h x y z p q = grind (arith, ints)
step_fits false f d l h x y z p q = grind (arith, ints)

module _ (n : Net) (flow : List ℤ) (flows : length flow ≡ length n) (s : Step) (d : ℤ) (within : s.arc < length n) (amount : pos 0 ≤ℤ d) where
  abbrev after : List ℤ
  after = slice_set flow s.arc (moved flow s d)

  pub here : flow_at after s.arc ≡ moved flow s d
  here = get_or-set_at flow s.arc s.arc (moved flow s d) (pos 0) refl (rw flows within)

  pub there : (i : ℕ) → i ≢ s.arc → flow_at after i ≡ flow_at flow i
  there i h = get_or-set_other flow s.arc i (moved flow s d) (pos 0) h

  pub step_carries : (inside : ℕ → Bool) → net inside n after +ℤ inside_part (inside (tail_of n s)) d ≡ net inside n flow +ℤ inside_part (inside (head_of n s)) d
  step_carries inside =
      let a : Bool = inside (from_at n s.arc) in
      let b : Bool = inside (to_at n s.arc) in
      let f : ℕ → ℤ = λ i. carried (inside (from_at n i)) (inside (to_at n i)) (flow_at after i) in
      let g : ℕ → ℤ = λ i. carried (inside (from_at n i)) (inside (to_at n i)) (flow_at flow i) in
      rw (pick inside s.back (to_at n s.arc) (from_at n s.arc), pick inside s.back (from_at n s.arc) (to_at n s.arc))
      (carried_more s.back a b (flow_at flow s.arc) d (net inside n after) (net inside n flow)
      (sum_changed (length n) s.arc f g within (λ i h. ap (carried (inside (from_at n i)) (inside (to_at n i))) (there i h))
      ∙ ap (λ z. net inside n flow +ℤ carried a b z) here))

  -- another step has room as before, or more
  pub step_rooms : (t : Step) → (s.arc ≡ t.arc → s.back ≢ t.back) → d ≤ℤ room n flow t → d ≤ℤ room n after t
  step_rooms t other h = elim (cases_eq t.arc s.arc) [
    | inl e ↦
        subst (λ z. d ≤ℤ cond t.back (z -ℤ lower_at n t.arc) (upper_at n t.arc -ℤ z)) (sym (ap (flow_at after) e ∙ here))
        (room_cases s.back t.back d (flow_at flow s.arc) (lower_at n t.arc) (upper_at n t.arc) amount (other (sym e))
        (subst (λ z. d ≤ℤ cond t.back (z -ℤ lower_at n t.arc) (upper_at n t.arc -ℤ z)) (ap (flow_at flow) e) h))
    | inr e ↦ subst (λ z. d ≤ℤ cond t.back (z -ℤ lower_at n t.arc) (upper_at n t.arc -ℤ z)) (sym (there t.arc e)) h
  ]

  pub step_nearer : d ≤ℤ room n flow s → (i : ℕ) → amiss (lower_at n i) (upper_at n i) (flow_at after i) ≤ amiss (lower_at n i) (upper_at n i) (flow_at flow i)
  step_nearer h i = elim (cases_eq i s.arc) [
    | inl e ↦
        subst (λ z. amiss (lower_at n z) (upper_at n z) (flow_at after z) ≤ amiss (lower_at n z) (upper_at n z) (flow_at flow z)) (sym e)
        (subst (λ z. amiss (lower_at n s.arc) (upper_at n s.arc) z ≤ amiss (lower_at n s.arc) (upper_at n s.arc) (flow_at flow s.arc)) (sym here)
        (nearer_cases s.back d (flow_at flow s.arc) (lower_at n s.arc) (upper_at n s.arc) amount h))
    | inr e ↦
        subst (λ z. amiss (lower_at n i) (upper_at n i) z ≤ amiss (lower_at n i) (upper_at n i) (flow_at flow i)) (sym (there i e)) (omega arith)
  ]

  pub step_leaves : ((i : ℕ) → FitsSigned w64 (flow_at flow i)) → FitsSigned w64 (lower_at n s.arc) → FitsSigned w64 (upper_at n s.arc) → d ≤ℤ room n flow s → (i : ℕ) → FitsSigned w64 (flow_at after i)
  step_leaves fits low high h i = elim (cases_eq i s.arc) [
    | inl e ↦ subst (λ z. FitsSigned w64 (flow_at after z)) (sym e) (subst (FitsSigned w64) (sym here) (step_fits s.back (flow_at flow s.arc) d (lower_at n s.arc) (upper_at n s.arc) (fits s.arc) low high amount h))
    | inr e ↦ subst (FitsSigned w64) (sym (there i e)) (fits i)
  ]

module _ (n : Net) (walk : List Step) (k : ℕ) (none : Step) (within : k < length walk) where
  -- the next step of a walk
  pub follows_next : (at b : ℕ) → Follows n at (drop k walk) b →
      ((get_or walk k none).arc < length n) × (tail_of n (get_or walk k none) ≡ at) × Follows n (head_of n (get_or walk k none)) (drop (k + 1) walk) b
  follows_next at b f = let e : drop k walk ≡ get_or walk k none ∷ drop (k + 1) walk = rw add-one (drop-cons walk k none within) in
      let g = rw e at f in g

-- what is not amiss is within
pub not_amiss : (l h f : ℤ) → amiss l h f ≡ 0 → (l ≤ℤ f) × (f ≤ℤ h)
not_amiss l h f e = (least (l -ℤ f) (omega (arith, e)), most (f -ℤ h) (omega (arith, e)))
  where
    none_above : (z : ℤ) → above_none z ≡ 0 → z ≤ℤ pos 0
    none_above (pos a) g = omega (arith, ints)
    none_above (negsuc a) g = omega (arith, ints)

    least : (z : ℤ) → above_none (l -ℤ f) ≡ 0 → l ≤ℤ f
    least z g = let k : (l -ℤ f) ≤ℤ pos 0 = none_above (l -ℤ f) g in omega (arith, ints)

    most : (z : ℤ) → above_none (f -ℤ h) ≡ 0 → f ≤ℤ h
    most z g = let k : (f -ℤ h) ≤ℤ pos 0 = none_above (f -ℤ h) g in omega (arith, ints)

pub is_amiss : (l h f : ℤ) → l ≤ℤ f → f ≤ℤ h → amiss l h f ≡ 0
is_amiss l h f p q = let a : above_none (l -ℤ f) ≡ 0 = above_nothing (l -ℤ f) (omega (arith, ints)) in let b : above_none (f -ℤ h) ≡ 0 = above_nothing (f -ℤ h) (omega (arith, ints)) in omega (arith, a, b)

pub nat_at_most : (n : ℕ) (f g : ℕ → ℕ) → ((i : ℕ) → i < n → f i ≤ g i) → sum_nat n f ≤ sum_nat n g
nat_at_most zero f g h = omega arith
nat_at_most (suc n) f g h = let a : sum_nat n f ≤ sum_nat n g = nat_at_most n f g (λ i k. h i (omega arith)) in let b : f n ≤ g n = h n (omega arith) in omega (arith, a, b)

-- none is greater and one is less
pub nat_less : (n : ℕ) (f g : ℕ → ℕ) (j : ℕ) → ((i : ℕ) → i < n → f i ≤ g i) → j < n → f j < g j → sum_nat n f < sum_nat n g
nat_less zero f g j h k strict = absurd (omega arith)
nat_less (suc n) f g j h k strict = elim (cases_lt j n) [
  | inl p ↦ let a : sum_nat n f < sum_nat n g = nat_less n f g j (λ i k. h i (omega arith)) p strict in let b : f n ≤ g n = h n (omega arith) in omega (arith, a, b)
  | inr p ↦
      let e : j ≡ n = omega arith in
      let a : sum_nat n f ≤ sum_nat n g = nat_at_most n f g (λ i k. h i (omega arith)) in
      let b : f n < g n = rw (sym e) strict in
      omega (arith, a, b)
]

-- an arc's bounds fit, and so do those that stand in for an arc that isn't there
pub bounds_fit : (nodes : ℕ) (n : Net) → AreSound nodes n → ((a : ℕ) → FitsSigned w64 (lower_at n a)) × ((a : ℕ) → FitsSigned w64 (upper_at n a))
bounds_fit nodes n sound = (
  λ a. elim (cases_lt a (length n)) [
    | inl h ↦ let l = sound.lower a h in let b = sound.bounds a h in let u = sound.upper a h in low_fits (lower_at n a) (upper_at n a) l b u
    | inr h ↦ subst (λ (x : Arc). FitsSigned w64 x.lower) (sym (get_or-eq_default n no_arc h)) nothing_fits
  ],
  λ a. elim (cases_lt a (length n)) [
    | inl h ↦ let l = sound.lower a h in let b = sound.bounds a h in let u = sound.upper a h in high_fits (lower_at n a) (upper_at n a) l b u
    | inr h ↦ subst (λ (x : Arc). FitsSigned w64 x.upper) (sym (get_or-eq_default n no_arc h)) nothing_fits
  ],
)
  where
    nothing_fits : FitsSigned w64 (pos 0)
    nothing_fits = grind (arith, ints)

    low_fits : (l u : ℤ) → pos 0 ≤ℤ l → l ≤ℤ u → u ≤ℤ pos 1000000000 → FitsSigned w64 l
    low_fits l u p q r = grind (arith, ints)

    high_fits : (l u : ℤ) → pos 0 ≤ℤ l → l ≤ℤ u → u ≤ℤ pos 1000000000 → FitsSigned w64 u
    high_fits l u p q r = grind (arith, ints)
