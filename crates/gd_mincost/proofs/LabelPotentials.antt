-- Labels that a search found, as potentials.
use Rattle.std.proofs.Common.{◌≡◌, ℕ, ◌+◌, ◌*◌, ◌^◌, ◌<◌, ◌≤◌, List, ◌++◌, take, drop, length, Bool, sym, ap, ◌∙◌, subst, arith}
use Rattle.std.specs.Prelude.{ℤ, pos, ◌≤ℤ◌}
use Rattle.std.proofs.Math.Seq.{take-append_seam}
use borrow.Author.Differences.{ints}
use Rattle.gd_scale.specs.Scale.{Scale, AtMost}
use Rattle.gd_scale.specs.Laws.{IsBounded}
use Rattle.gd_rules.specs.Question.{Question}
use Rattle.gd_network.specs.Arcs.{Net, from_at, to_at}
use Rattle.gd_network.specs.declared.walks.Step.{Step}
use Rattle.gd_labels.specs.Findings.{AreLabels}
use Rattle.gd_mincost.specs.Gains.{IsGainAt, gain_at}
use Rattle.gd_flow.specs.Feasible.{IsFeasible}
use Rattle.gd_mincost.specs.Residual.{AreLinked, IsWhole}
use Rattle.gd_mincost.specs.ClosedWalks.{AreShown}
use Rattle.gd_mincost.specs.Settling.{IsSettled, potential}
use Rattle.gd_mincost.proofs.Links.{all_still}

few : (nodes : ℕ) → nodes ≤ 8448 → pos (16 * nodes) ≤ℤ pos (2 ^ 39)
few nodes h = omega (arith, ints)

pub are_shown : {V : Type 0} (s : Scale V) (within : ℤ → V → Bool) → IsBounded s within → (nodes : ℕ) (n : Net) (flow : List ℤ) (gains : List V) (from to : List ℕ) (gain : List V) (steps : List Step) (label : List V) → nodes ≤ 8448
    → AreLinked s n flow gains from to gain steps → IsWhole n flow (length n) steps → AreLabels s within nodes from to gain label → AreShown s within nodes n flow gains label
are_shown s within b nodes n flow gains from to gain steps label small linked whole h = record {
  count = h.nodes;
  small = λ node k. b.wider (pos (16 * nodes)) (pos (2 ^ 39)) (potential s label node) (few nodes small) (h.small node k);
  still = all_still s n flow gains from to gain steps label linked whole h.still;
}

-- What shows a flow best by the gains of the table shows it by any that say what the arcs gain.
pub is_settled : {V : Type 0} (s : Scale V) (within : ℤ → V → Bool) (unit : ℕ → ℕ → V) (q : Question) (n : Net) (flow : List ℤ) (gains label : List V) → IsFeasible n flow
    → ((a : ℕ) → a < length n → IsGainAt s unit q a (gain_at s gains a)) → AreShown s within (length q.elements + 1) n flow gains label → IsSettled s within unit q n flow label
is_settled {V} s within unit q n flow gains label f each h = record {
  size = f.size;
  balances = f.balances;
  bounds = f.bounds;
  nodes = h.count;
  small = λ node k. h.small node (subst (λ m. node < m) h.count k);
  still = λ gain are. record {
    along = λ a k room. subst (λ x. AtMost s (s.plus (potential s label (from_at n a)) x) (potential s label (to_at n a))) (each a k gain are) (h.still.along a k room);
    back = λ a k room. subst (λ x. AtMost s (s.plus (potential s label (to_at n a)) (s.minus x)) (potential s label (from_at n a))) (each a k gain are) (h.still.back a k room);
  };
}

-- A list that is written back whole.
pub written : (xs ys : List ℤ) (count : ℕ) → length xs ≡ count → take count (xs ++ drop (length xs) ys) ≡ xs
written xs ys count e = ap (λ k. take k (xs ++ drop (length xs) ys)) (sym e) ∙ take-append_seam xs (drop (length xs) ys)
