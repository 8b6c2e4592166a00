-- The first events of a search.
use Rattle.std.proofs.Common.{◌≡◌, ℕ, ◌+◌, ◌<◌, List, [], ◌∷◌, ◌++◌, length, Bool, IsTrue, refl, sym, ◌∙◌, arith, get_or}
use Rattle.std.specs.Prelude.{ℤ, pos}
use Rattle.std.proofs.lemmas.Grind.{common_steps, elements}
use Rattle.std.specs.List.{IsDistinct}
use Rattle.gd_scale.specs.Scale.{Scale}
use Rattle.gd_scale.specs.Laws.{IsLawful, IsBounded}
use Rattle.gd_labels.specs.Links.{node_at}
use Rattle.gd_labels.specs.Findings.{label_at}
use Rattle.gd_labels.specs.Events.{AreEvents}
use Rattle.gd_labels.proofs.Order.{fits_more, above_itself}

-- Each of the first n numbers is a node, whose event has its number and whose label is nothing.
pub record AreRoots {V : Type 0} (s : Scale V) (n : ℕ) (node before link current : List ℕ) (label : List V) : Type 0 where
  pub nodes : length node ≡ n
  pub befores : length before ≡ n
  pub links : length link ≡ n
  pub currents : length current ≡ n
  pub labels : length label ≡ n
  pub node_own : (k : ℕ) → k < n → node_at node k ≡ k
  pub current_own : (k : ℕ) → k < n → get_or current k 0 ≡ k
  pub label_none : (k : ℕ) → k < n → label_at s label k ≡ s.none

pub roots_search : {V : Type 0} {s : Scale V} {within : ℤ → V → Bool} (lawful : IsLawful s) (bounded : IsBounded s within) (from to : List ℕ) (gain : List V)
    (n : ℕ) (node before link current : List ℕ) (label : List V) → AreRoots s n node before link current label → AreEvents s within from to gain node before link current label
unfolding IsDistinct
roots_search {V} {s} {within} lawful bounded from to gain n node before link current label r =
    let count : length current ≡ n = r.currents in
    let nodes : length node ≡ n = r.nodes in
    record {
      value = label;
      labels = r.labels ∙ sym count;
      befores = r.befores ∙ sym nodes;
      links = r.links ∙ sym nodes;
      values = r.labels ∙ sym nodes;
      roots = omega (arith, count, nodes);
      in_range = λ e e_in. let e_low : e < n = omega (arith, nodes) in rw (r.node_own e e_low) (omega (arith, count));
      earlier = λ e high e_in. absurd (omega (arith, count, nodes));
      linked = λ e high e_in. absurd (omega (arith, count, nodes));
      starts = λ e high e_in. absurd (omega (arith, count, nodes));
      ends = λ e high e_in. absurd (omega (arith, count, nodes));
      adds = λ e high e_in. absurd (omega (arith, count, nodes));
      not_above = λ e e_in. let e_low : e < n = omega (arith, nodes) in rw (r.node_own e e_low) (above_itself lawful (label_at s label e));
      newest = λ v v_in. let v_low : v < n = omega (arith, count) in rw (r.current_own v v_low) (omega (arith, nodes));
      newest_node = λ v v_in. let v_low : v < n = omega (arith, count) in rw (r.current_own v v_low) (r.node_own v v_low);
      newest_value = λ v v_in. let v_low : v < n = omega (arith, count) in rw (r.current_own v v_low) refl;
      chain = λ e e_in.
          let e_low : e < n = omega (arith, nodes) in
          let fits : IsTrue (within (pos 16) s.none) = fits_more bounded 0 16 s.none (omega arith) bounded.none in
          let own : label_at s label e ≡ s.none = r.label_none e e_low in
          (e ∷ [], (omega (arith, count), r.node_own e e_low), (tt, tt), rw own fits);
    }

-- one more
pub roots_push : {V : Type 0} {s : Scale V} (n : ℕ) (node before link current : List ℕ) (label : List V) (x : V) → AreRoots s n node before link current label → x ≡ s.none
    → AreRoots s (n + 1) (node ++ n ∷ []) (before ++ 0 ∷ []) (link ++ 0 ∷ []) (current ++ n ∷ []) (label ++ x ∷ [])
roots_push {V} {s} n node before link current label x r none = record {
  nodes = grind (arith, common_steps, r.nodes);
  befores = grind (arith, common_steps, r.befores);
  links = grind (arith, common_steps, r.links);
  currents = grind (arith, common_steps, r.currents);
  labels = grind (arith, common_steps, r.labels);
  node_own = grind (arith, elements, r.node_own, r.nodes);
  current_own = grind (arith, elements, r.current_own, r.currents);
  label_none = grind (arith, elements, r.label_none, r.labels, none);
}
