-- Potentials that were read and compared.
use Rattle.std.proofs.Common.{◌≡◌, ℕ, ◌+◌, ◌^◌, ◌<◌, List, length, map, get_or, Bool, IsTrue, sym, ap, ◌∙◌, subst, arith}
use Rattle.std.specs.Prelude.{ℤ, pos}
use Rattle.std.proofs.lemmas.List.{length-map}
use borrow.Author.Differences.{ints}
use Rattle.gd_scale.specs.Scale.{Scale, AtMost}
use Rattle.gd_scale.specs.Laws.{IsLawful, IsBounded}
use Rattle.gd_scale.proofs.Group.{neutral_left}
use Rattle.gd_rules.specs.Question.{Question}
use Rattle.gd_network.specs.declared.arcs.Arc.{Arc}
use Rattle.gd_network.specs.Arcs.{Net, arc_at, from_at, to_at}
use Rattle.gd_flow.specs.Feasible.{IsFeasible}
use Rattle.gd_mincost.specs.Settling.{potential, IsSettled}
use Rattle.gd_mincost.specs.Stillness.{AreSmall, ShowsBest}
use Rattle.gd_mincost.proofs.Table.{read}

-- the ends of an arc that was read
pub from_is : (n : Net) (k : ℕ) (a : Arc) → a ≡ arc_at n k → a.from ≡ from_at n k
from_is n k a e = ap (λ (b : Arc). b.from) e

pub to_is : (n : Net) (k : ℕ) (a : Arc) → a ≡ arc_at n k → a.to ≡ to_at n k
to_is n k a e = ap (λ (b : Arc). b.to) e

-- an end of an arc that was read is a node
pub in_nodes : (n : Net) (k count : ℕ) (end_at : Net → ℕ → ℕ) (node : ℕ) → node ≡ end_at n k → {nodes : ℕ} → count ≡ nodes → end_at n k < nodes → node < count
in_nodes n k count end_at node is same h = subst (λ m. m < count) (sym is) (subst (λ m. end_at n k < m) (sym same) h)

module _ {C V : Type 0} (s : Scale V) (within : ℤ → V → Bool) (meaning : C → V) (items : List C) where
  -- the potential of a node, as it was read
  pub read_potential : (u v : ℕ) (x : C) → u ≡ v → v < length items → x ≡ get_or items u x → meaning x ≡ potential s (map meaning items) v
  read_potential u v x e h is =
      let within_list : u < length (map meaning items) = subst (λ m. u < m) (sym (length-map items meaning)) (subst (λ m. m < length items) (sym e) h) in
      read meaning items u x s.none within_list is ∙ ap (potential s (map meaning items)) e

  -- it is small enough to add to
  pub potential_fits : IsBounded s within → AreSmall s within (map meaning items) → (u v : ℕ) (x : C) → u ≡ v → v < length items → x ≡ get_or items u x → IsTrue (within (pos (2 ^ 100)) (meaning x))
  potential_fits b small u v x e h is =
      let in_list : v < length (map meaning items) = subst (λ m. v < m) (sym (length-map items meaning)) h in
      b.wider (pos (2 ^ 39)) (pos (2 ^ 100)) (meaning x) (omega (arith, ints))
      (subst (λ y. IsTrue (within (pos (2 ^ 39)) y)) (sym (read_potential u v x e h is)) (small v in_list))

pub at_most_same : {V : Type 0} (s : Scale V) (x x' g g' y y' : V) → x ≡ x' → g ≡ g' → y ≡ y' → AtMost s (s.plus x g) y → AtMost s (s.plus x' g') y'
at_most_same s x x' g g' y y' a b c h =
    subst (λ z. AtMost s (s.plus x' g') z) c (subst (λ z. AtMost s (s.plus x' z) y) b (subst (λ z. AtMost s (s.plus z g) y) a h))

-- what turning back gains
pub turned : {V : Type 0} (s : Scale V) → IsLawful s → (z g x : V) → z ≡ s.none → x ≡ s.plus z (s.minus g) → x ≡ s.minus g
turned s l z g x a b = b ∙ ap (λ y. s.plus y (s.minus g)) a ∙ neutral_left s l (s.minus g)

-- A feasible flow that potentials show best.
pub settled_by : {V : Type 0} (s : Scale V) (within : ℤ → V → Bool) (unit : ℕ → ℕ → V) (q : Question) (n : Net) (flow seen : List ℤ) (labels read : List V) → seen ≡ flow → read ≡ labels → IsFeasible n flow
    → length read ≡ length q.elements + 1 → AreSmall s within read → ShowsBest s unit q n seen read → IsSettled s within unit q n flow labels
settled_by s within unit q n flow seen labels read a b f nodes small shows = record {
  size = f.size;
  balances = f.balances;
  bounds = f.bounds;
  nodes = subst (λ xs. length xs ≡ length q.elements + 1) b nodes;
  small = subst (AreSmall s within) b small;
  still = subst (λ xs. ShowsBest s unit q n xs labels) a (subst (ShowsBest s unit q n seen) b shows);
}

-- The same flow, over what the network and the flow are.
pub feasible_parts : (n n' : Net) (flow flow' : List ℤ) → n' ≡ n → flow' ≡ flow → IsFeasible n flow → IsFeasible n' flow'
feasible_parts n n' flow flow' a b h = subst (λ m. IsFeasible m flow') (sym a) (subst (IsFeasible n) (sym b) h)
