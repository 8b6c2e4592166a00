-- Walks that avoid a node, and how long they can be.
use Rattle.std.proofs.Common.{◌≡◌, ℕ, ◌+◌, ◌*◌, ◌<◌, ◌≤◌, List, [], ◌∷◌, ◌++◌, length, Bool, true, false, IsTrue, refl, ◌∙◌, arith, get_or, eqb, ◌||◌, below_more, ◌-◌, slice_set}
use Rattle.std.specs.Prelude.{ℤ, pos}
use Rattle.std.proofs.lemmas.Grind.{elements}
use Rattle.std.proofs.lemmas.List.{get_or_push, length-append}
use Rattle.std.proofs.lemmas.List.Sums.{sum_by-set}
use Rattle.std.proofs.Math.ListN.{get_or-append}
use Rattle.std.specs.List.{IsDistinct, list_any}
use Rattle.std.proofs.lemmas.Map.Steps.{length-le_from_distinct_below}
use Rattle.std.proofs.lemmas.Bool.Decides.{nat_tests}
use Rattle.gd_scale.specs.Scale.{Scale}
use Rattle.gd_scale.specs.Laws.{IsBounded, IsRanked}
use Rattle.gd_labels.specs.Links.{node_at}
use Rattle.gd_labels.specs.Findings.{label_at}
use Rattle.gd_labels.specs.Events.{above, Chain, NotIn, AreEvents, slack}
use Rattle.gd_labels.proofs.Order.{fits_more, fits_plus, rank_rises}

either : (q v : ℕ) (b : Bool) (P : Type 0) → (q ≡ v → P) → (b ≡ true → P) → (eqb q v || b) ≡ true → P
either q v b P same other h = elim (eqb q v) as (λ t. eqb q v ≡ t → (t || b) ≡ true → P) [
  | true ↦ λ e k. same (grind (arith, nat_tests))
  | false ↦ λ e k. other k
] refl h

-- the start of a walk is another node
pub avoids_start : (node before : List ℕ) (count e w : ℕ) → e < count → eqb w (node_at node e) ≡ false →
    (us : List ℕ) → Chain node before count e us → NotIn w us
avoids_start node before count e w low differs [] c = absurd c
avoids_start node before count e w low differs (v ∷ []) c = (rw c.1 at differs, tt)
avoids_start node before count e w low differs (v ∷ (u ∷ us)) c = let high : count ≤ e = c.0 in absurd (omega arith)

-- the rest of a walk avoids w, and its end is another node
pub avoids_more : (node before : List ℕ) (count e w : ℕ) → count ≤ e → eqb w (node_at node e) ≡ false →
    ((us : List ℕ) → Chain node before count (get_or before e 0) us → NotIn w us) →
    (us : List ℕ) → Chain node before count e us → NotIn w us
avoids_more node before count e w high differs rest [] c = absurd c
avoids_more node before count e w high differs rest (v ∷ []) c = let low : e < count = c.0 in absurd (omega arith)
avoids_more node before count e w high differs rest (v ∷ (u ∷ us)) c = (rw c.1 at differs, rest (u ∷ us) c.2)

-- a walk is still there when an event is added
pub chain_push : (node before : List ℕ) (count x y : ℕ) → length before ≡ length node →
    ((e : ℕ) → count ≤ e → e < length node → get_or before e 0 < e) →
    (us : List ℕ) (e : ℕ) → e < length node → Chain node before count e us → Chain (node ++ x ∷ []) (before ++ y ∷ []) count e us
chain_push node before count x y same earlier [] e within c = c
chain_push node before count x y same earlier (v ∷ []) e within c = (c.0, grind (arith, elements, c.1))
chain_push node before count x y same earlier (v ∷ (u ∷ us)) e within c =
    let falls : get_or before e 0 < e = earlier e c.0 within in
    let back : get_or (before ++ y ∷ []) e 0 ≡ get_or before e 0 = grind (arith, elements, same) in
    (c.0, grind (arith, elements, c.1), rw back (chain_push node before count x y same earlier (u ∷ us) (get_or before e 0) (omega arith) c.2))

-- each node of a walk is in range
pub chain_below : (node before : List ℕ) (count n : ℕ) →
    ((e : ℕ) → count ≤ e → e < length node → get_or before e 0 < e) →
    ((e : ℕ) → e < length node → node_at node e < n) →
    (us : List ℕ) (e : ℕ) → e < length node → Chain node before count e us → (q : ℕ) → list_any (eqb q) us ≡ true → q < n
chain_below node before count n earlier in_range [] e within c q h = absurd c
chain_below node before count n earlier in_range (v ∷ []) e within c q h =
    let here : v < n = rw c.1 at (in_range e within) in
    either q v false (q < n) (λ same. rw same here) (λ no. cc) h
chain_below node before count n earlier in_range (v ∷ (u ∷ us)) e within c q h =
    let here : v < n = rw c.1 at (in_range e within) in
    let falls : get_or before e 0 < e = earlier e c.0 within in
    let rest = chain_below node before count n earlier in_range (u ∷ us) (get_or before e 0) (omega arith) c.2 q in
    either q v (list_any (eqb q) (u ∷ us)) (q < n) (λ same. rw same here) rest h

module _ {V : Type 0} {s : Scale V} {within : ℤ → V → Bool} (bounded : IsBounded s within)
    {from to : List ℕ} {gain : List V} {node before link current : List ℕ} {label : List V}
    (search : AreEvents s within from to gain node before link current label) where
  -- no walk is longer than there are nodes
  chain_length : (e : ℕ) → e < length node → (us : List ℕ) → Chain node before (length current) e us → IsDistinct eqb us → length us ≤ length current
  chain_length e e_in us c apart =
      length-le_from_distinct_below us (length current) apart (chain_below node before (length current) (length current) search.earlier search.in_range us e e_in c)

  -- so values fit
  pub value_fits : (e : ℕ) → e < length node → IsTrue (within (pos (16 * length current)) (get_or search.value e s.none))
  value_fits e e_in =
      let c = search.chain e e_in in
      let least : length (c.0) ≤ length current = chain_length e e_in (c.0) (c.1) (c.2) in
      fits_more bounded (16 * length (c.0)) (16 * length current) (get_or search.value e s.none) (omega arith) (c.3)

  pub label_fits : (v : ℕ) → v < length current → IsTrue (within (pos (16 * length current)) (label_at s label v))
  label_fits v v_in = rw (← search.newest_value v v_in) (value_fits (get_or current v 0) (search.newest v v_in))

  newest_chain : (w newest : ℕ) → newest < length node → (us : List ℕ) → Chain node before (length current) newest us →
      Chain (node ++ w ∷ []) (before ++ newest ∷ []) (length current) (length node) (w ∷ us)
  newest_chain w newest newest_in [] c = absurd c
  newest_chain w newest newest_in (v ∷ vs) c =
      let back : get_or (before ++ newest ∷ []) (length node) 0 ≡ newest = get_or_push before newest 0 (length node) search.befores in (
        search.roots,
        get_or_push node w 0 (length node) refl,
        rw back (chain_push node before (length current) w newest search.befores search.earlier (v ∷ vs) newest newest_in c),
      )

  -- an event is added
  pub chain_added : (w newest : ℕ) (lu gi r : V) → newest < length node → get_or search.value newest s.none ≡ lu →
      r ≡ s.plus lu gi → IsTrue (within (pos 16) gi) →
      ((us : List ℕ) → Chain node before (length current) newest us → NotIn w us) →
      (e : ℕ) → e < length (node ++ w ∷ []) →
      (us : List ℕ) × Chain (node ++ w ∷ []) (before ++ newest ∷ []) (length current) e us × IsDistinct eqb us × IsTrue (within (pos (16 * length us)) (get_or (search.value ++ r ∷ []) e s.none))
  unfolding IsDistinct
  chain_added w newest lu gi r newest_in worth r_is fits avoids e e_in =
      let P : ℕ → Type 0 = λ k. (us : List ℕ) × Chain (node ++ w ∷ []) (before ++ newest ∷ []) (length current) k us × IsDistinct eqb us × IsTrue (within (pos (16 * length us)) (get_or (search.value ++ r ∷ []) k s.none)) in
      below_more P (length node)
      (λ k k_in. let c = search.chain k k_in in
      let old : get_or (search.value ++ r ∷ []) k s.none ≡ get_or search.value k s.none = get_or-append search.value (r ∷ []) s.none k (rw search.values k_in) in
      (c.0, chain_push node before (length current) w newest search.befores search.earlier (c.0) k k_in (c.1), c.2, rw old (c.3)))
      (let c = search.chain newest newest_in in
      let made : get_or (search.value ++ r ∷ []) (length node) s.none ≡ s.plus lu gi = get_or_push search.value r s.none (length node) search.values ∙ r_is in
      let part : IsTrue (within (pos (16 * length (c.0))) lu) = rw worth at (c.3) in
      let all : IsTrue (within (pos (16 * length (c.0) + 16)) (s.plus lu gi)) = fits_plus bounded (16 * length (c.0)) 16 lu gi part fits in
      let sizes : 16 * length (w ∷ c.0) ≡ 16 * length (c.0) + 16 = omega arith in
      (w ∷ c.0, newest_chain w newest newest_in (c.0) (c.1), (avoids (c.0) (c.1), c.2), rw (made, sizes) all))
      e (rw length-append at e_in)

  -- the labels have less far to rise
  pub slack_falls : {size : ℕ → ℕ} {rank : ℕ → V → ℕ} (order : IsRanked s within size rank) (w : ℕ) (r : V) → w < length current → IsTrue (within (pos (16 * length current)) r) → above s r (label_at s label w) ≡ true →
      slack size rank (16 * length current) (slice_set label w r) < slack size rank (16 * length current) label
  slack_falls {size} {rank} order w r w_in fits rises =
      let b : ℕ = 16 * length current in
      let f : V → ℕ = λ x. size b - rank b x in
      let sums = sum_by-set f label w r s.none (rw search.labels w_in) in
      let below : rank b r < size b = order.below b r fits in
      let higher : rank b (label_at s label w) < rank b r = rank_rises order b (label_at s label w) r (label_fits w w_in) fits rises in
      omega (arith, sums, below, higher)
