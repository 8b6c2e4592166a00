-- Walks of links, as walks of steps.
use Rattle.std.proofs.Common.{◌≡◌, ℕ, zero, suc, ◌-◌, ◌<◌, List, [], ◌∷◌, ◌++◌, length, map, get_or, cond, refl, sym, ap, ◌∙◌, subst, arith}
use Rattle.std.specs.Prelude.{ℤ, pos, ◌≤ℤ◌, ◌<ℤ◌}
use Rattle.std.proofs.lemmas.List.{reverse-append, length-reverse, length-map, get_or-reverse, get_or-map}
use borrow.Author.Differences.{ints}
use Rattle.gd_scale.specs.Scale.{Scale, IsAbove}
use Rattle.gd_scale.specs.Laws.{IsLawful}
use Rattle.gd_network.specs.Arcs.{Net, from_at, to_at}
use Rattle.gd_network.specs.declared.walks.Step.{Step}
use Rattle.gd_network.specs.Steps.{tail_of, head_of, room, Follows, AreSteps, Once, HasRooms}
use Rattle.gd_labels.specs.Links.{node_at, Trail, gain_of, EndsOnce}
use Rattle.gd_labels.specs.Findings.{IsGaining}
use Rattle.gd_mincost.specs.Gains.{gained, gain_along}
use Rattle.gd_mincost.specs.Residual.{AreLinked, step_at}
use Rattle.gd_mincost.specs.ClosedWalks.{steps_along}
use Rattle.gd_mincost.proofs.Value.{gain_push}

-- the last link's step stands last
along_more : (steps : List Step) (i : ℕ) (walk : List ℕ) → steps_along steps (i ∷ walk) ≡ steps_along steps walk ++ step_at steps i ∷ []
along_more steps i walk = reverse-append (step_at steps i ∷ []) (map (step_at steps) walk)

pub along_length : (steps : List Step) (walk : List ℕ) → length (steps_along steps walk) ≡ length walk
along_length steps walk = length-reverse (map (step_at steps) walk) ∙ length-map walk (step_at steps)

pub along_at : (steps : List Step) (walk : List ℕ) (k : ℕ) (d : Step) → k < length walk → get_or (steps_along steps walk) k d ≡ step_at steps (node_at walk (length walk - 1 - k))
along_at steps walk k d h =
    let size : length (map (step_at steps) walk) ≡ length walk = length-map walk (step_at steps) in
    let back : length walk - 1 - k < length walk = omega arith in
    get_or-reverse (map (step_at steps) walk) k d (omega (arith, size))
    ∙ ap (λ m. get_or (map (step_at steps) walk) (m - 1 - k) d) size
    ∙ get_or-map (step_at steps) walk (length walk - 1 - k) 0 d back

follows_push : (n : Net) (walk : List Step) (step : Step) (a b c : ℕ) → Follows n a walk b → step.arc < length n → tail_of n step ≡ b → head_of n step ≡ c → Follows n a (walk ++ step ∷ []) c
follows_push n [] step a b c h arc tail head = (arc, tail ∙ sym h, head)
follows_push n (t ∷ walk) step a b c h arc tail head = (h.0, h.1, follows_push n walk step (head_of n t) b c h.2 arc tail head)

pub trail_in : (from to : List ℕ) (a b : ℕ) (walk : List ℕ) → Trail from to a walk b → (k : ℕ) → k < length walk → node_at walk k < length from
trail_in from to a b [] t k h = absurd (omega arith)
trail_in from to a b (i ∷ walk) t zero h = t.0
trail_in from to a b (i ∷ walk) t (suc k) h = trail_in from to a (node_at from i) walk t.2 k (omega arith)

module _ {V : Type 0} (s : Scale V) (n : Net) (flow : List ℤ) (gains : List V) (from to : List ℕ) (gain : List V) (steps : List Step) (linked : AreLinked s n flow gains from to gain steps) where
  pub follows : (a b : ℕ) (walk : List ℕ) → Trail from to a walk b → Follows n a (steps_along steps walk) b
  follows a b [] t = t
  follows a b (i ∷ walk) t =
      let link = linked.each i t.0 in
      subst (λ w. Follows n a w b) (sym (along_more steps i walk))
      (follows_push n (steps_along steps walk) (step_at steps i) a (node_at from i) b (follows a (node_at from i) walk t.2) link.arc (sym link.begins) (sym link.leads ∙ t.1))

  pub walk_gains : (l : IsLawful s) (a b : ℕ) (walk : List ℕ) → Trail from to a walk b → gain_of s gain walk ≡ gain_along s gains (steps_along steps walk)
  walk_gains l a b [] t = refl
  walk_gains l a b (i ∷ walk) t =
      ap (λ x. s.plus x (gain_of s gain walk)) (linked.each i t.0).gain_is
      ∙ ap (s.plus (gained s gains (step_at steps i))) (walk_gains l a (node_at from i) walk t.2)
      ∙ sym (gain_push s l gains (steps_along steps walk) (step_at steps i))
      ∙ ap (gain_along s gains) (sym (along_more steps i walk))

  module _ (a b : ℕ) (walk : List ℕ) (t : Trail from to a walk b) where
    place : (k : ℕ) → k < length (steps_along steps walk) → length walk - 1 - k < length walk
    place k h = let e = along_length steps walk in omega (arith, e, h)

    -- the link at the place of a step
    link_in : (k : ℕ) → k < length (steps_along steps walk) → node_at walk (length walk - 1 - k) < length from
    link_in k h = trail_in from to a b walk t (length walk - 1 - k) (place k h)

    at_place : (k : ℕ) (d : Step) → k < length (steps_along steps walk) → get_or (steps_along steps walk) k d ≡ step_at steps (node_at walk (length walk - 1 - k))
    at_place k d h = along_at steps walk k d (subst (λ m. k < m) (along_length steps walk) h)

    pub are_steps : AreSteps n (steps_along steps walk)
    are_steps k d h = subst (λ (x : Step). x.arc < length n) (sym (at_place k d h)) (linked.each (node_at walk (length walk - 1 - k)) (link_in k h)).arc

    pub have_room : (k : ℕ) (d : Step) → k < length (steps_along steps walk) → pos 0 <ℤ room n flow (get_or (steps_along steps walk) k d)
    have_room k d h = subst (λ (x : Step). pos 0 <ℤ room n flow x) (sym (at_place k d h)) (linked.each (node_at walk (length walk - 1 - k)) (link_in k h)).has_room

    same_head : (x y : Step) → x.arc ≡ y.arc → x.back ≡ y.back → head_of n x ≡ head_of n y
    same_head x y e f = ap (λ r. cond r (from_at n x.arc) (to_at n x.arc)) f ∙ ap (λ r. cond y.back (from_at n r) (to_at n r)) e

    pub once : EndsOnce to walk → Once (steps_along steps walk)
    once ends j k d before h arc back =
        let e = along_length steps walk in
        let j_in : j < length (steps_along steps walk) = omega (arith, before, h) in
        let p : ℕ = node_at walk (length walk - 1 - j) in
        let q : ℕ = node_at walk (length walk - 1 - k) in
        let heads : head_of n (step_at steps p) ≡ head_of n (step_at steps q) =
        subst (λ (x : Step). head_of n (step_at steps p) ≡ head_of n x) (at_place k d h)
        (subst (λ (x : Step). head_of n x ≡ head_of n (get_or (steps_along steps walk) k d)) (at_place j d j_in) (same_head (get_or (steps_along steps walk) j d) (get_or (steps_along steps walk) k d) arc back)) in
        ends (length walk - 1 - k) (length walk - 1 - j) (omega (arith, before, h, e)) (omega (arith, before, h, e))
        ((linked.each q (link_in k h)).leads ∙ sym heads ∙ sym (linked.each p (link_in j j_in)).leads)

-- what the code's copy of a walk is
pub along_is : (steps held : List Step) (walk : List ℕ) (got along : List Step) → held ≡ steps → got ≡ steps_along held walk → along ≡ got → along ≡ steps_along steps walk
along_is steps held walk got along a b c = c ∙ (b ∙ ap (λ xs. steps_along xs walk) a)

-- What a push asks of a closed walk and an amount.
pub record CanPush (n : Net) (flow : List ℤ) (walk : List Step) (amount : ℤ) : Type 0 where
  pub steps : AreSteps n walk
  pub rooms : HasRooms n flow walk amount
  pub once : Once walk
  pub some : pos 1 ≤ℤ amount
  pub low : pos 0 ≤ℤ amount

from_one : (z : ℤ) → pos 0 <ℤ z → pos 1 ≤ℤ z
from_one z h = omega (arith, ints)

not_below : (z : ℤ) → pos 0 <ℤ z → pos 0 ≤ℤ z
not_below z h = omega (arith, ints)

-- the amount is the least room, told of the same walk
pub can_push : {V : Type 0} (s : Scale V) (n : Net) (flow : List ℤ) (gains : List V) (from to : List ℕ) (gain : List V) (steps : List Step) → AreLinked s n flow gains from to gain steps → (walk : List ℕ) (g : IsGaining s from to gain walk) (along told : List Step) (amount z : ℤ)
    → along ≡ steps_along steps walk → along ≡ told → amount ≡ z → HasRooms n flow told z → (HasRooms n flow told (pos 1) → pos 0 <ℤ z) → CanPush n flow along amount
can_push s n flow gains from to gain steps linked walk g along told amount z e same read rooms some =
    let all : (k : ℕ) (d : Step) → k < length along → pos 0 <ℤ room n flow (get_or along k d) =
    subst (λ w. (k : ℕ) (d : Step) → k < length w → pos 0 <ℤ room n flow (get_or w k d)) (sym e) (have_room s n flow gains from to gain steps linked g.node g.node walk g.closed) in
    let ones : HasRooms n flow along (pos 1) = λ k d h. from_one (room n flow (get_or along k d)) (all k d h) in
    let above : pos 0 <ℤ amount = subst (λ y. pos 0 <ℤ y) (sym read) (some (subst (λ w. HasRooms n flow w (pos 1)) same ones)) in
    record {
      steps = subst (AreSteps n) (sym e) (are_steps s n flow gains from to gain steps linked g.node g.node walk g.closed);
      rooms = subst (λ y. HasRooms n flow along y) (sym read) (subst (λ w. HasRooms n flow w z) (sym same) rooms);
      once = subst Once (sym e) (once s n flow gains from to gain steps linked g.node g.node walk g.closed g.once);
      some = from_one amount above;
      low = not_below amount above;
    }

pub along_follows : {V : Type 0} (s : Scale V) (n : Net) (flow : List ℤ) (gains : List V) (from to : List ℕ) (gain : List V) (steps : List Step) → AreLinked s n flow gains from to gain steps → (walk : List ℕ) (g : IsGaining s from to gain walk) (along : List Step)
    → along ≡ steps_along steps walk → Follows n g.node along g.node
along_follows s n flow gains from to gain steps linked walk g along e = subst (λ w. Follows n g.node w g.node) (sym e) (follows s n flow gains from to gain steps linked g.node g.node walk g.closed)

-- the walk of steps gains as that of links does
pub along_gains : {V : Type 0} (s : Scale V) (l : IsLawful s) (n : Net) (flow : List ℤ) (gains : List V) (from to : List ℕ) (gain : List V) (steps : List Step) → AreLinked s n flow gains from to gain steps → (walk : List ℕ) → IsGaining s from to gain walk → (along : List Step)
    → along ≡ steps_along steps walk → IsAbove s (gain_along s gains along) s.none
along_gains s l n flow gains from to gain steps linked walk g along e =
    subst (λ w. IsAbove s (gain_along s gains w) s.none) (sym e)
    (subst (λ x. IsAbove s x s.none) (walk_gains s n flow gains from to gain steps linked l g.node g.node walk g.closed) g.gains)
