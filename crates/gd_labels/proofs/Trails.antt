-- A walk grows at its start, and gains what the link gains.
use Rattle.std.proofs.Common.{◌≡◌, ◌≢◌, ℕ, ◌<◌, ◌≤◌, List, [], ◌∷◌, ◌++◌, length, Bool, true, false, refl, sym, ◌∙◌, ap, arith, get_or}
use Rattle.std.specs.Prelude.{ℤ}
use Rattle.std.proofs.lemmas.Bool.Decides.{nat_tests}
use Rattle.gd_scale.specs.Scale.{Scale, IsAbove}
use Rattle.gd_scale.specs.Laws.{IsLawful}
use Rattle.gd_labels.specs.Links.{node_at, Trail, gain_of}
use Rattle.gd_labels.specs.Findings.{label_at}
use Rattle.gd_labels.specs.Events.{above, AreEvents, Chain, NotIn}
use Rattle.gd_labels.proofs.Chains.{avoids_start, avoids_more}
use Rattle.gd_labels.proofs.Order.{above_through, gains, is_greater}

trail_push : (from to : List ℕ) (a : ℕ) (walk : List ℕ) (b j : ℕ) → Trail from to a walk b → j < length from → node_at to j ≡ a → Trail from to (node_at from j) (walk ++ j ∷ []) b
trail_push from to a [] b j t j_in ends = (j_in, ends ∙ t, refl)
trail_push from to a (i ∷ is) b j t j_in ends = (t.0, t.1, trail_push from to a is (node_at from i) j t.2 j_in ends)

module _ {V : Type 0} {s : Scale V} (lawful : IsLawful s) (gain : List V) where
  gain_push : (walk : List ℕ) (j : ℕ) → gain_of s gain (walk ++ j ∷ []) ≡ s.plus (gain_of s gain walk) (get_or gain j s.none)
  gain_push [] j = lawful.commutes (get_or gain j s.none) s.none
  gain_push (i ∷ is) j = ap (s.plus (get_or gain i s.none)) (gain_push is j) ∙ sym (lawful.associates (get_or gain i s.none) (gain_of s gain is) (get_or gain j s.none))

  -- what is reached stays the same when a link is taken into the walk
  worth_push : (before here reached : V) (walk : List ℕ) (j : ℕ) → here ≡ s.plus before (get_or gain j s.none) →
      s.plus here (gain_of s gain walk) ≡ reached → s.plus before (gain_of s gain (walk ++ j ∷ [])) ≡ reached
  worth_push before here reached walk j e worth =
      ap (s.plus before) (gain_push walk j ∙ lawful.commutes (gain_of s gain walk) (get_or gain j s.none))
      ∙ sym (lawful.associates before (get_or gain j s.none) (gain_of s gain walk))
      ∙ ap (λ (x : V). s.plus x (gain_of s gain walk)) (sym e) ∙ worth

module _ {V : Type 0} {s : Scale V} {within : ℤ → V → Bool} (lawful : IsLawful s)
    {from to : List ℕ} {gain : List V} {node before link current : List ℕ} {label : List V}
    (search : AreEvents s within from to gain node before link current label) where
  -- A walk that leads back to its start gains: it leads from a value not above the label to a value above it.
  pub closed_gains : (event end : ℕ) (reached : V) (walk : List ℕ) → event < length node → node_at node event ≡ end → above s reached (label_at s label end) ≡ true →
      s.plus (get_or search.value event s.none) (gain_of s gain walk) ≡ reached →
      IsAbove s (gain_of s gain walk) s.none
  closed_gains event end reached walk event_in at_end high worth =
      let here : V = get_or search.value event s.none in
      let low : above s here (label_at s label end) ≡ false = rw at_end at (search.not_above event event_in) in
      is_greater (s.order (gain_of s gain walk) s.none) (gains lawful here (gain_of s gain walk) (rw worth (above_through lawful here (label_at s label end) reached low high)))

  -- one link back
  pub one_back : (event j earlier b : ℕ) (reached : V) (walk : List ℕ) → length current ≤ event → event < length node →
      get_or link event 0 ≡ j → get_or before event 0 ≡ earlier →
      Trail from to (node_at node event) walk b →
      s.plus (get_or search.value event s.none) (gain_of s gain walk) ≡ reached →
      (earlier < event) × (earlier < length node)
      × Trail from to (node_at node earlier) (walk ++ j ∷ []) b
      × (s.plus (get_or search.value earlier s.none) (gain_of s gain (walk ++ j ∷ [])) ≡ reached)
  one_back event j earlier b reached walk low event_in same_j same_earlier trail worth =
      let falls : earlier < event = rw same_earlier at (search.earlier event low event_in) in
      let linked : j < length from = rw same_j at (search.linked event low event_in) in
      let starts = rw (same_j, same_earlier) at (search.starts event low event_in) in
      let ends = rw same_j at (search.ends event low event_in) in
      let adds = rw (same_j, same_earlier) at (search.adds event low event_in) in (
        falls,
        omega arith,
        rw (← starts) (trail_push from to (node_at node event) walk b j trail linked ends),
        worth_push lawful gain (get_or search.value earlier s.none) (get_or search.value event s.none) reached walk j adds worth,
      )

-- what the walk to the event before avoids, the walk to this event does, which leads to another node
pub avoids_back : (node before : List ℕ) (count event end earlier : ℕ) → count ≤ event → node_at node event ≢ end →
    get_or before event 0 ≡ earlier → ((us : List ℕ) → Chain node before count earlier us → NotIn end us) →
    (us : List ℕ) → Chain node before count event us → NotIn end us
avoids_back node before count event end earlier low differs same_earlier rest =
    avoids_more node before count event end low (grind (arith, nat_tests)) (rw same_earlier rest)

pub avoids_root : (node before : List ℕ) (count event end : ℕ) → event < count → node_at node event ≢ end → (us : List ℕ) → Chain node before count event us → NotIn end us
avoids_root node before count event end low differs = avoids_start node before count event end low (grind (arith, nat_tests))
