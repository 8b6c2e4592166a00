-- What a push leaves.
use Rattle.std.proofs.Common.{◌≡◌, ◌≢◌, ℕ, zero, suc, ◌<◌, ◌≤◌, List, length, Bool, true, false, get_or, ℤ, pos, ◌+ℤ◌, ◌-ℤ◌, ◌≤ℤ◌, ◌<ℤ◌, cond, inl, inr, refl, sym, ◌∙◌, ap, subst, arith}
use borrow.Author.Differences.{ints}
use Rattle.std.proofs.lemmas.List.{get_or_default}
use Rattle.std.proofs.lemmas.Bool.{cases_lt}
use Rattle.gd_scale.specs.Sum.{sum_nat}
use Rattle.gd_network.specs.Arcs.{Net, lower_at, upper_at}
use Rattle.gd_network.specs.Flow.{flow_at, net, IsCirculation, IsWithin}
use Rattle.gd_question.specs.Nodes.{inside_part}
use Rattle.gd_network.specs.declared.walks.Step.{Step}
use Rattle.gd_network.specs.Steps.{room, moved, Once, HasRooms, IsNearer, Mends, amiss, all_amiss}
use Rattle.gd_network.proofs.Pushes.{nearer_short, nearer_over, not_amiss, is_amiss, nat_less}

-- what a push along a walk from a to b carries into each set of nodes
abbrev pub Carries : Net → List ℤ → List ℤ → ℕ → ℕ → ℤ → Type 0
Carries n old new a b d = (inside : ℕ → Bool) → net inside n new +ℤ inside_part (inside a) d ≡ net inside n old +ℤ inside_part (inside b) d

-- what a push does to an arc that one step alone takes
abbrev pub MovesSingle : List ℤ → List ℤ → List Step → ℤ → Type 0
MovesSingle old new walk d = (k : ℕ) (s : Step) → k < length walk → ((j : ℕ) (t : Step) → j < length walk → j ≢ k → (get_or walk j t).arc ≢ (get_or walk k s).arc) → flow_at new (get_or walk k s).arc ≡ moved old (get_or walk k s) d

pub balance_kept : (n : Net) (old new : List ℤ) (a : ℕ) (d : ℤ) → Carries n old new a a d → IsCirculation n old → IsCirculation n new
balance_kept n old new a d carries balance inside = same (net inside n new) (net inside n old) (inside_part (inside a) d) (carries inside) (balance inside)
  where
    same : (x y z : ℤ) → x +ℤ z ≡ y +ℤ z → y ≡ pos 0 → x ≡ pos 0
    same x y z h k = omega (arith, ints)

pub bounds_kept : (n : Net) (old new : List ℤ) → IsNearer n old new → IsWithin n old → IsWithin n new
bounds_kept n old new nearer within = record { above = λ i h. (all i h).0; below = λ i h. (all i h).1 }
  where
    all : (i : ℕ) → i < length n → (lower_at n i ≤ℤ flow_at new i) × (flow_at new i ≤ℤ upper_at n i)
    all i h =
        let a : amiss (lower_at n i) (upper_at n i) (flow_at old i) ≡ 0 = is_amiss (lower_at n i) (upper_at n i) (flow_at old i) (within.above i h) (within.below i h) in
        let b : amiss (lower_at n i) (upper_at n i) (flow_at new i) ≤ amiss (lower_at n i) (upper_at n i) (flow_at old i) = nearer i h in
        not_amiss (lower_at n i) (upper_at n i) (flow_at new i) (omega (arith, a, b))

-- where a sum is 0 each part is
none_of : (n : ℕ) (f : ℕ → ℕ) → sum_nat n f ≡ 0 → (i : ℕ) → i < n → f i ≡ 0
none_of zero f e i h = absurd (omega arith)
none_of (suc n) f e i h = elim (cases_lt i n) [
  | inl g ↦ none_of n f (omega (arith, e)) i g
  | inr g ↦ let k : n ≡ i = omega arith in ap f (sym k) ∙ omega (arith, e)
]

pub all_kept : (n : Net) (flow : List ℤ) → all_amiss n flow ≡ 0 → IsWithin n flow
all_kept n flow e = record { above = λ i h. (all i h).0; below = λ i h. (all i h).1 }
  where
    all : (i : ℕ) → i < length n → (lower_at n i ≤ℤ flow_at flow i) × (flow_at flow i ≤ℤ upper_at n i)
    all i h = not_amiss (lower_at n i) (upper_at n i) (flow_at flow i) (none_of (length n) (λ a. amiss (lower_at n a) (upper_at n a) (flow_at flow a)) e i h)

module _ (n : Net) (old : List ℤ) (d : ℤ) (some : pos 0 <ℤ d) where
  -- a step that mends its arc can't be taken back there
  only_way : (s t : Step) → Mends n old s → s.arc ≡ t.arc → d ≤ℤ room n old t → s.back ≢ t.back → ⊥
  only_way s t (inl h) same has other = by_way t.back refl
    where
      by_way : (b : Bool) → t.back ≡ b → ⊥
      by_way true e =
          let r : d ≤ℤ (flow_at old t.arc -ℤ lower_at n t.arc) = subst (λ b. d ≤ℤ cond b (flow_at old t.arc -ℤ lower_at n t.arc) (upper_at n t.arc -ℤ flow_at old t.arc)) e has in
          let m : flow_at old t.arc <ℤ lower_at n t.arc = subst (λ a. flow_at old a <ℤ lower_at n a) same h.1 in
          omega (arith, ints)
      by_way false e = other (h.0 ∙ sym e)
  only_way s t (inr h) same has other = by_way t.back refl
    where
      by_way : (b : Bool) → t.back ≡ b → ⊥
      by_way false e =
          let r : d ≤ℤ (upper_at n t.arc -ℤ flow_at old t.arc) = subst (λ b. d ≤ℤ cond b (flow_at old t.arc -ℤ lower_at n t.arc) (upper_at n t.arc -ℤ flow_at old t.arc)) e has in
          let m : upper_at n t.arc <ℤ flow_at old t.arc = subst (λ a. upper_at n a <ℤ flow_at old a) same h.1 in
          omega (arith, ints)
      by_way true e = other (h.0 ∙ sym e)

  mended : (s : Step) → Mends n old s → d ≤ℤ room n old s → amiss (lower_at n s.arc) (upper_at n s.arc) (moved old s d) < amiss (lower_at n s.arc) (upper_at n s.arc) (flow_at old s.arc)
  mended s (inl h) has =
      subst (λ b. amiss (lower_at n s.arc) (upper_at n s.arc) (cond b (flow_at old s.arc -ℤ d) (flow_at old s.arc +ℤ d)) < amiss (lower_at n s.arc) (upper_at n s.arc) (flow_at old s.arc)) (sym h.0)
      (nearer_short d (flow_at old s.arc) (lower_at n s.arc) (upper_at n s.arc) some (subst (λ b. d ≤ℤ cond b (flow_at old s.arc -ℤ lower_at n s.arc) (upper_at n s.arc -ℤ flow_at old s.arc)) h.0 has) h.1)
  mended s (inr h) has =
      subst (λ b. amiss (lower_at n s.arc) (upper_at n s.arc) (cond b (flow_at old s.arc -ℤ d) (flow_at old s.arc +ℤ d)) < amiss (lower_at n s.arc) (upper_at n s.arc) (flow_at old s.arc)) (sym h.0)
      (nearer_over d (flow_at old s.arc) (lower_at n s.arc) (upper_at n s.arc) some (subst (λ b. d ≤ℤ cond b (flow_at old s.arc -ℤ lower_at n s.arc) (upper_at n s.arc -ℤ flow_at old s.arc)) h.0 has) h.1)

pub less_amiss : (n : Net) (old new : List ℤ) (walk : List Step) (d : ℤ) (k : ℕ) (s : Step) → pos 0 <ℤ d → k < length walk → (get_or walk k s).arc < length n → HasRooms n old walk d → Once walk → MovesSingle old new walk d → IsNearer n old new → Mends n old (get_or walk k s) → all_amiss n new < all_amiss n old
less_amiss n old new walk d k s some within arc rooms once single nearer mends =
    let here : Step = get_or walk k s in
    nat_less (length n) (λ a. amiss (lower_at n a) (upper_at n a) (flow_at new a)) (λ a. amiss (lower_at n a) (upper_at n a) (flow_at old a)) here.arc nearer arc
    (subst (λ z. amiss (lower_at n here.arc) (upper_at n here.arc) z < amiss (lower_at n here.arc) (upper_at n here.arc) (flow_at old here.arc))
    (sym (single k s within (λ j t j_in other same.
    let e : get_or walk j t ≡ get_or walk j s = get_or_default walk j t s j_in in
    let met : (get_or walk j s).arc ≡ here.arc = ap (λ u. u.arc) (sym e) ∙ same in
    only_way n old d some here (get_or walk j s) mends (sym met) (rooms j s j_in)
    (elim (cases_lt j k) [
      | inl g ↦ λ f. once j k s g within met (sym f)
      | inr g ↦ once k j s (omega arith) j_in (sym met)
    ]))))
    (mended n old d some here mends (rooms k s within)))
