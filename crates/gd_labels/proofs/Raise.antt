-- A search stays one when a label is raised.
use Rattle.std.proofs.Common.{◌≡◌, ℕ, ◌*◌, ◌<◌, List, [], ◌∷◌, ◌++◌, length, Bool, true, IsTrue, slice_set, sym, ◌∙◌, arith, get_or}
use Rattle.std.specs.Prelude.{ℤ, pos}
use Rattle.std.proofs.lemmas.Grind.{common_steps, elements}
use Rattle.std.proofs.lemmas.List.{get_or_default, length-set, length-append, get_or_push}
use Rattle.gd_scale.specs.Scale.{Scale}
use Rattle.gd_scale.specs.Laws.{IsLawful, IsBounded, IsRanked}
use Rattle.gd_labels.specs.Links.{node_at, AreLinks}
use Rattle.gd_labels.specs.Findings.{label_at}
use Rattle.gd_labels.specs.Events.{above, reached_at, improves_at, AreEvents, AvoidsAt, slack}
use Rattle.gd_labels.proofs.Order.{stays, above_itself}
use Rattle.gd_labels.proofs.Chains.{chain_added, slack_falls, value_fits}

module _ {V : Type 0} {s : Scale V} {within : ℤ → V → Bool} (lawful : IsLawful s) (bounded : IsBounded s within)
    {from to : List ℕ} {gain : List V} {node before link current : List ℕ} {label : List V}
    (search : AreEvents s within from to gain node before link current label)
    (links : AreLinks s within (length current) from to gain)
    (i : ℕ) (i_in : i < length from)
    (u w newest event : ℕ) (r : V)
    (u_is : u ≡ get_or from i u) (w_is : w ≡ get_or to i w) (newest_is : newest ≡ get_or current u newest)
    (r_is : r ≡ reached_at s from gain label i) (event_is : event ≡ length node)
    (better : improves_at s from to gain label i ≡ true)
    (avoids : AvoidsAt from to node before current i) where
  same_u : node_at from i ≡ u
  same_u = get_or_default from i 0 u i_in ∙ sym u_is

  same_w : node_at to i ≡ w
  same_w = get_or_default to i 0 w (omega (arith, links.ends)) ∙ sym w_is

  start_in : u < length current
  start_in = rw same_u at (links.begins_in i i_in)

  end_in : w < length current
  end_in = rw same_w at (links.leads_in i i_in)

  same_newest : get_or current u 0 ≡ newest
  same_newest = get_or_default current u 0 newest start_in ∙ sym newest_is

  newest_in : newest < length node
  newest_in = rw (← same_newest) (search.newest u start_in)

  newest_at : node_at node newest ≡ u
  newest_at = rw (← same_newest) (search.newest_node u start_in)

  newest_worth : get_or search.value newest s.none ≡ label_at s label (node_at from i)
  newest_worth = rw (← same_newest, same_u) (search.newest_value u start_in)

  rises : above s r (label_at s label w) ≡ true
  rises = let h = rw same_w at better in rw r_is h

  last_value : (v : ℕ) → v < length (slice_set current w event) → get_or (search.value ++ r ∷ []) (get_or (slice_set current w event) v 0) s.none ≡ get_or (slice_set label w r) v s.none
  last_value =
      let old : (v : ℕ) → v < length current → get_or search.value (get_or current v 0) s.none ≡ get_or label v s.none = search.newest_value in
      let end_low : w < length current = end_in in
      grind (arith, elements, old, search.newest, search.values, search.labels, event_is)

  pub raise_keeps : AreEvents s within from to gain (node ++ w ∷ []) (before ++ newest ∷ []) (link ++ i ∷ []) (slice_set current w event) (slice_set label w r)
  raise_keeps =
      let own = same_u in
      let own_end = same_w in
      let start_low : u < length current = start_in in
      let end_low : w < length current = end_in in
      let newest_low : newest < length node = newest_in in
      let at_start : node_at node newest ≡ u = newest_at in
      let worth : get_or search.value newest s.none ≡ label_at s label (node_at from i) = newest_worth in
      let up : above s r (label_at s label w) ≡ true = rises in
      record {
        value = search.value ++ r ∷ [];
        labels = grind (arith, common_steps, search.labels);
        befores = grind (arith, common_steps, search.befores);
        links = grind (arith, common_steps, search.links);
        values = grind (arith, common_steps, search.values);
        roots = grind (arith, common_steps, search.roots);
        in_range = grind (arith, elements, search.in_range);
        earlier = grind (arith, elements, search.earlier);
        linked = grind (arith, elements, search.linked);
        starts = grind (arith, elements, search.starts, search.earlier, own);
        ends = grind (arith, elements, search.ends, own_end);
        adds = grind (arith, elements, search.adds, search.earlier, r_is);
        not_above = grind (arith, elements, search.not_above, search.in_range, stays lawful (label_at s label w) r, above_itself lawful r, up);
        newest = grind (arith, elements, search.newest);
        newest_node = grind (arith, elements, search.newest_node, search.newest);
        newest_value = last_value;
        chain = rw (length-set current w event) (chain_added bounded search w newest (label_at s label (node_at from i)) (get_or gain i s.none) r newest_low worth r_is (links.small i i_in) (rw (same_u, same_newest, same_w) at avoids));
      }

  pub raise_slack : {size : ℕ → ℕ} {rank : ℕ → V → ℕ} (order : IsRanked s within size rank) → slack size rank (16 * length current) (slice_set label w r) < slack size rank (16 * length current) label
  unfolding raise_keeps
  raise_slack order =
      let at_push : get_or (search.value ++ r ∷ []) (length node) s.none ≡ r = get_or_push search.value r s.none (length node) search.values in
      let in_push : length node < length (node ++ w ∷ []) = rw length-append (omega arith) in
      let fits_new = value_fits bounded raise_keeps (length node) in_push in
      let fits_after : IsTrue (within (pos (16 * length current)) r) = rw (length-set current w event, at_push) at fits_new in
      slack_falls bounded search order w r end_in fits_after rises
