-- The links of steps with room.
use Rattle.std.proofs.Common.{◌≡◌, ℕ, ◌+◌, ◌^◌, ◌<◌, List, [], ◌∷◌, ◌++◌, length, get_or, cond, Bool, true, false, IsTrue, to_z, of_z, refl, sym, ap, ◌∙◌, subst, arith, below_more, inl, inr}
use Rattle.std.specs.Prelude.{ℤ, pos, ◌-ℤ◌, ◌≤ℤ◌, ◌<ℤ◌, FitsSigned}
use lib.Signed.{le_z}
use Rattle.std.proofs.lemmas.Bool.{cases_lt}
use Rattle.std.proofs.lemmas.List.{length_push, get_or_append_left, get_or_push}
use Rattle.std.specs.Int.{w64}
use borrow.Author.Differences.{ints}
use Rattle.gd_scale.specs.Scale.{Scale, AtMost}
use Rattle.gd_scale.specs.Laws.{IsBounded}
use Rattle.gd_network.specs.declared.arcs.Arc.{Arc}
use Rattle.gd_network.specs.Arcs.{Net, arc_at, from_at, to_at, lower_at, upper_at}
use Rattle.gd_network.specs.Beginning.{AreSound}
use Rattle.gd_network.specs.Flow.{flow_at}
use Rattle.gd_network.specs.Potential.{IsStill}
use Rattle.gd_network.specs.declared.walks.Step.{Step}
use Rattle.gd_network.specs.Steps.{tail_of, head_of, room}
use Rattle.gd_labels.specs.Links.{AreLinks, node_at}
use Rattle.gd_labels.specs.Findings as labels
use Rattle.gd_mincost.specs.Gains.{AreGains, gain_at, gained}
use Rattle.gd_mincost.specs.Residual.{IsLink, AreLinked, Holds, Keeps, IsWhole, step_at}
use Rattle.gd_mincost.specs.Settling.{potential}

module _ {V : Type 0} (s : Scale V) (n : Net) (flow : List ℤ) (gains : List V) where
  same_link : (step step' : Step) (u u' v v' : ℕ) (x x' : V) → step' ≡ step → u' ≡ u → v' ≡ v → x' ≡ x → IsLink s n flow gains step u v x → IsLink s n flow gains step' u' v' x'
  same_link step step' u u' v v' x x' a b c d h = record {
    arc = subst (λ t. t.arc < length n) (sym a) h.arc;
    begins = b ∙ h.begins ∙ ap (tail_of n) (sym a);
    leads = c ∙ h.leads ∙ ap (head_of n) (sym a);
    gain_is = d ∙ h.gain_is ∙ ap (gained s gains) (sym a);
    has_room = subst (λ t. pos 0 <ℤ room n flow t) (sym a) h.has_room;
  }

  pub linked_none : AreLinked s n flow gains [] [] [] []
  linked_none = record { to_count = refl; gain_count = refl; step_count = refl; each = λ i h. absurd (omega arith) }

  pub linked_more : (from to : List ℕ) (gain : List V) (steps : List Step) (u v : ℕ) (x : V) (step : Step) → AreLinked s n flow gains from to gain steps → IsLink s n flow gains step u v x
      → AreLinked s n flow gains (from ++ u ∷ []) (to ++ v ∷ []) (gain ++ x ∷ []) (steps ++ step ∷ [])
  linked_more from to gain steps u v x step h k = record {
    to_count = length_push to v ∙ ap (λ m. m + 1) h.to_count ∙ sym (length_push from u);
    gain_count = length_push gain x ∙ ap (λ m. m + 1) h.gain_count ∙ sym (length_push from u);
    step_count = length_push steps step ∙ ap (λ m. m + 1) h.step_count ∙ sym (length_push from u);
    each = λ i j. below_more (λ m. IsLink s n flow gains (step_at (steps ++ step ∷ []) m) (node_at (from ++ u ∷ []) m) (node_at (to ++ v ∷ []) m) (get_or (gain ++ x ∷ []) m s.none)) (length from)
        (λ m g.
        let in_to : m < length to = subst (λ c. m < c) (sym h.to_count) g in
        let in_gain : m < length gain = subst (λ c. m < c) (sym h.gain_count) g in
        let in_steps : m < length steps = subst (λ c. m < c) (sym h.step_count) g in
        same_link (step_at steps m) (step_at (steps ++ step ∷ []) m) (node_at from m) (node_at (from ++ u ∷ []) m) (node_at to m) (node_at (to ++ v ∷ []) m) (get_or gain m s.none) (get_or (gain ++ x ∷ []) m s.none)
        (get_or_append_left steps (step ∷ []) (record { arc = 0; back = false }) m in_steps) (get_or_append_left from (u ∷ []) 0 m g) (get_or_append_left to (v ∷ []) 0 m in_to) (get_or_append_left gain (x ∷ []) s.none m in_gain) (h.each m g))
        (same_link step (step_at (steps ++ step ∷ []) (length from)) u (node_at (from ++ u ∷ []) (length from)) v (node_at (to ++ v ∷ []) (length from)) x (get_or (gain ++ x ∷ []) (length from) s.none)
        (get_or_push steps step (record { arc = 0; back = false }) (length from) h.step_count) (get_or_push from u 0 (length from) refl) (get_or_push to v 0 (length from) h.to_count) (get_or_push gain x s.none (length from) h.gain_count) k)
        i (subst (λ c. i < c) (length_push from u) j);
  }

  -- the same of lists that are written otherwise
  pub linked_now : (from to : List ℕ) (gain : List V) (steps : List Step) (u v : ℕ) (x : V) (step : Step) (from' to' : List ℕ) (gain' : List V) (steps' : List Step)
      → from' ≡ from ++ u ∷ [] → to' ≡ to ++ v ∷ [] → gain' ≡ gain ++ x ∷ [] → steps' ≡ steps ++ step ∷ []
      → AreLinked s n flow gains from to gain steps → IsLink s n flow gains step u v x → AreLinked s n flow gains from' to' gain' steps'
  linked_now from to gain steps u v x step from' to' gain' steps' a b c d h k =
      subst (λ ys. AreLinked s n flow gains ys to' gain' steps') (sym a)
      (subst (λ ys. AreLinked s n flow gains (from ++ u ∷ []) ys gain' steps') (sym b)
      (subst (λ ys. AreLinked s n flow gains (from ++ u ∷ []) (to ++ v ∷ []) ys steps') (sym c)
      (subst (λ ys. AreLinked s n flow gains (from ++ u ∷ []) (to ++ v ∷ []) (gain ++ x ∷ []) ys) (sym d)
      (linked_more from to gain steps u v x step h k))))

pub holds_more : (steps : List Step) (step other : Step) → Holds steps other → Holds (steps ++ step ∷ []) other
holds_more steps step other h = (h.0, let p = length_push steps step in let q : h.0 < length steps = h.1 in omega (arith, p, q), get_or_append_left steps (step ∷ []) (record { arc = 0; back = false }) h.0 h.1 ∙ h.2)

pub holds_last : (steps : List Step) (step : Step) → Holds (steps ++ step ∷ []) step
holds_last steps step = (length steps, let p = length_push steps step in omega (arith, p), get_or_push steps step (record { arc = 0; back = false }) (length steps) refl)

of_arc : (step : Step) (a : ℕ) (b : Bool) → step.arc ≡ a → step.back ≡ b → record { arc = a; back = b } ≡ step
of_arc step a b e f = sym (ap (λ x. record { arc = x; back = step.back }) e ∙ ap (λ x. record { arc = a; back = x }) f)

-- Both steps of an arc.
pub both_ways : (n : Net) (flow : List ℤ) (a : ℕ) (mid new : List Step)
    → (pos 0 <ℤ room n flow (record { arc = a; back = false }) → Holds mid (record { arc = a; back = false })) → Keeps mid new
    → (pos 0 <ℤ room n flow (record { arc = a; back = true }) → Holds new (record { arc = a; back = true }))
    → (step : Step) → step.arc ≡ a → pos 0 <ℤ room n flow step → Holds new step
both_ways n flow a mid new along kept back step here has = by_way step.back refl
  where
    by_way : (b : Bool) → step.back ≡ b → Holds new step
    by_way false e = let same = of_arc step a false here e in subst (Holds new) same (kept (record { arc = a; back = false }) (along (subst (λ t. pos 0 <ℤ room n flow t) (sym same) has)))
    by_way true e = let same = of_arc step a true here e in subst (Holds new) same (back (subst (λ t. pos 0 <ℤ room n flow t) (sym same) has))

-- One arc more.
pub whole_more : (n : Net) (flow : List ℤ) (a : ℕ) (old new : List Step) → IsWhole n flow a old → Keeps old new
    → ((step : Step) → step.arc ≡ a → pos 0 <ℤ room n flow step → Holds new step) → IsWhole n flow (a + 1) new
whole_more n flow a old new h kept here step below has = elim (cases_lt step.arc a) [
  | inl g ↦ kept step (h step g has)
  | inr g ↦ here step (omega arith) has
]

module _ {V : Type 0} (s : Scale V) (within : ℤ → V → Bool) (b : IsBounded s within) where
  joins : (nodes : ℕ) (n : Net) → AreSound nodes n → (step : Step) → step.arc < length n → (tail_of n step < nodes) × (head_of n step < nodes)
  joins nodes n sound step h = by_way step.back
    where
      by_way : (w : Bool) → (cond w (to_at n step.arc) (from_at n step.arc) < nodes) × (cond w (from_at n step.arc) (to_at n step.arc) < nodes)
      by_way true = (sound.to step.arc h, sound.from step.arc h)
      by_way false = (sound.from step.arc h, sound.to step.arc h)

  pub step_small : (n : Net) (gains : List V) → AreGains s within (length n) gains → (step : Step) → step.arc < length n → IsTrue (within (pos 16) (gained s gains step))
  step_small n gains small step h = by_way step.back
    where
      by_way : (w : Bool) → IsTrue (within (pos 16) (cond w (s.minus (gain_at s gains step.arc)) (gain_at s gains step.arc)))
      by_way true = b.minus (pos 16) (gain_at s gains step.arc) (small.small step.arc h)
      by_way false = small.small step.arc h

  -- The links are such as a search for labels takes.
  pub are_links : (nodes : ℕ) (n : Net) (flow : List ℤ) (gains : List V) (from to : List ℕ) (gain : List V) (steps : List Step) → AreSound nodes n → AreGains s within (length n) gains
      → AreLinked s n flow gains from to gain steps → AreLinks s within nodes from to gain
  are_links nodes n flow gains from to gain steps sound small h = record {
    ends = h.to_count;
    gains = h.gain_count;
    begins_in = λ i k. subst (λ v. v < nodes) (sym (h.each i k).begins) (joins nodes n sound (step_at steps i) (h.each i k).arc).0;
    leads_in = λ i k. subst (λ v. v < nodes) (sym (h.each i k).leads) (joins nodes n sound (step_at steps i) (h.each i k).arc).1;
    small = λ i k. subst (λ x. IsTrue (within (pos 16) x)) (sym (h.each i k).gain_is) (step_small n gains small (step_at steps i) (h.each i k).arc);
  }

  pub fits_large : (x : V) → IsTrue (within (pos 16) x) → IsTrue (within (pos (2 ^ 100)) x)
  fits_large x h = b.wider (pos 16) (pos (2 ^ 100)) x (omega (arith, ints)) h

-- the link of a step along its arc, and of one back along it
module _ {V : Type 0} (s : Scale V) (n : Net) (flow : List ℤ) (gains : List V) (step : Step) (arc : Arc) (x : V) (here : step.arc < length n) (is : arc ≡ arc_at n step.arc) (some : pos 0 <ℤ room n flow step) where
  pub link_along : step.back ≡ false → x ≡ gain_at s gains step.arc → IsLink s n flow gains step arc.from arc.to x
  link_along way gain = record {
    arc = here;
    begins = ap (λ (y : Arc). y.from) is ∙ ap (λ b. cond b (to_at n step.arc) (from_at n step.arc)) (sym way);
    leads = ap (λ (y : Arc). y.to) is ∙ ap (λ b. cond b (from_at n step.arc) (to_at n step.arc)) (sym way);
    gain_is = gain ∙ ap (λ b. cond b (s.minus (gain_at s gains step.arc)) (gain_at s gains step.arc)) (sym way);
    has_room = some;
  }

  pub link_back : step.back ≡ true → x ≡ s.minus (gain_at s gains step.arc) → IsLink s n flow gains step arc.to arc.from x
  link_back way gain = record {
    arc = here;
    begins = ap (λ (y : Arc). y.to) is ∙ ap (λ b. cond b (to_at n step.arc) (from_at n step.arc)) (sym way);
    leads = ap (λ (y : Arc). y.from) is ∙ ap (λ b. cond b (from_at n step.arc) (to_at n step.arc)) (sym way);
    gain_is = gain ∙ ap (λ b. cond b (s.minus (gain_at s gains step.arc)) (gain_at s gains step.arc)) (sym way);
    has_room = some;
  }

pub some_room : (z : ℤ) → FitsSigned w64 z → le_z (to_z w64 (of_z w64 z)) (pos 0) ≡ false → pos 0 <ℤ z
some_room z fits h = grind (arith, ints)

-- what code reads and takes off
pub difference : (u f : ℤ) → pos 0 ≤ℤ f → f ≤ℤ u → u ≤ℤ pos 1000000000 → to_z w64 (of_z w64 (to_z w64 (of_z w64 u) -ℤ to_z w64 (of_z w64 f))) ≡ u -ℤ f
difference u f low high small = omega (arith, ints)

pub room_along : (n : Net) (flow : List ℤ) (step : Step) → step.back ≡ false → upper_at n step.arc -ℤ flow_at flow step.arc ≡ room n flow step
room_along n flow step e = ap (λ b. cond b (flow_at flow step.arc -ℤ lower_at n step.arc) (upper_at n step.arc -ℤ flow_at flow step.arc)) (sym e)

has_more : (f h : ℤ) → f <ℤ h → pos 0 <ℤ (h -ℤ f)
has_more f h k = omega (arith, ints)

-- Where no link improves a label, no step that has room does.
pub all_still : {V : Type 0} (s : Scale V) (n : Net) (flow : List ℤ) (gains : List V) (from to : List ℕ) (gain : List V) (steps : List Step) (label : List V) → AreLinked s n flow gains from to gain steps → IsWhole n flow (length n) steps
    → labels.IsStill s from to gain label → IsStill s n flow (gain_at s gains) (potential s label)
all_still {V} s n flow gains from to gain steps label linked whole still = record {
  along = λ a h g. at (record { arc = a; back = false }) (whole (record { arc = a; back = false }) h (has_more (flow_at flow a) (upper_at n a) g));
  back = λ a h g. at (record { arc = a; back = true }) (whole (record { arc = a; back = true }) h (has_more (lower_at n a) (flow_at flow a) g));
}
  where
    at : (step : Step) → Holds steps step → AtMost s (s.plus (potential s label (tail_of n step)) (gained s gains step)) (potential s label (head_of n step))
    at step h =
        let i : ℕ = h.0 in
        let k : i < length from = subst (λ m. i < m) linked.step_count h.1 in
        let link = linked.each i k in
        let begins : node_at from i ≡ tail_of n step = link.begins ∙ ap (tail_of n) h.2 in
        let leads : node_at to i ≡ head_of n step = link.leads ∙ ap (head_of n) h.2 in
        let gain_is : get_or gain i s.none ≡ gained s gains step = link.gain_is ∙ ap (gained s gains) h.2 in
        subst (λ v. AtMost s (s.plus (potential s label (tail_of n step)) (gained s gains step)) (potential s label v)) leads
        (subst (λ x. AtMost s (s.plus (potential s label (tail_of n step)) x) (potential s label (node_at to i))) gain_is
        (subst (λ u. AtMost s (s.plus (potential s label u) (get_or gain i s.none)) (potential s label (node_at to i))) begins (still i k)))
