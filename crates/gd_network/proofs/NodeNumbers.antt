-- Each element brings one node, as the pipeline grew.
use Rattle.std.proofs.Common.{◌≡◌, ℕ, suc, ◌+◌, ◌*◌, ◌<◌, ◌≤◌, ◌^◌, List, length, refl, sym, ◌∙◌, subst, arith, inl, inr, Bool, true, false}
use Rattle.std.specs.Prelude.{ℤ, pos, ◌≤ℤ◌, ◌==◌}
use borrow.Author.Differences.{ints}
use Rattle.std.proofs.lemmas.Bool.{cases_lt}
use Rattle.gd_rules.specs.Question.{Element, Question, element, line, place_of}
use Rattle.gd_rules.specs.Question.Element.{Segment, Receipt, Delivery, Pool}
use Rattle.gd_rules.specs.Tree.{HasLines}
use Rattle.gd_rules.specs.Schedule.{quantity}
use Rattle.gd_rules.specs.Spread.{tenth_end}
use Rattle.gd_tree.specs.Grown as tree
use Rattle.gd_system.specs.Pipeline.{Pipeline}
use Rattle.gd_question.specs.Placing.{IsPlaced}
use Rattle.gd_question.specs.Known.{IsKnown}
use Rattle.gd_schedule.specs.Sizes.{IsSized}
use Rattle.gd_schedule.proofs.Sizes.{load_sized}
use Rattle.gd_network.specs.Arcs.{Net, IsNetwork, from_at, to_at, lower_at, upper_at, most_part, least_part}
use Rattle.gd_question.specs.Nodes.{Brings, AllBring, start_of, stop_of}
use Rattle.gd_network.specs.Flow.{IsOrdered, flow_at, part_of, IsFlowOf}
use Rattle.gd_network.specs.Entries.{FirstArcs, FirstFlows}
use Rattle.gd_network.specs.Beginning.{AreSound, IsFirst}
use Rattle.gd_network.proofs.Building.{arcs_all, flows_all}
use Rattle.gd_network.proofs.Wiring.{IsWired, wired}
use Rattle.gd_network.proofs.Allowed.{by_arc}
use Rattle.gd_network.proofs.Tens.{ends_grow}

joined_order : (k s : ℕ) (e : Element) → k < s → tree.Joins k e → IsOrdered s k e
joined_order k s (Segment from to capacity) g (inl h) = let a : from ≡ suc k = h.0 in let b : to ≤ k = h.1 in (omega arith, omega arith)
joined_order k s (Segment from to capacity) g (inr h) = let a : to ≡ suc k = h.0 in let b : from ≤ k = h.1 in (omega arith, omega arith)
joined_order k s (Receipt place capacity) g h = absurd h
joined_order k s (Delivery place capacity) g h = absurd h
joined_order k s (Pool place) g h = absurd h

hung_order : (k s : ℕ) (e : Element) → tree.IsNoSegment e → s ≤ k → place_of e ≤ s → IsOrdered s k e
hung_order k s (Segment from to capacity) h g p = absurd h
hung_order k s (Receipt place capacity) h g p = (g, p)
hung_order k s (Delivery place capacity) h g p = (g, p)
hung_order k s (Pool place) h g p = g

pub ordered : (s : Pipeline) (q : Question) → IsPlaced s q → (e : ℕ) → e < length q.elements → IsOrdered (length s.tree) e (element q e)
ordered s q p e h = elim (cases_lt e (length s.tree)) [
  | inl g ↦ joined_order e (length s.tree) (element q e) g (p.grown.joins e g)
  | inr g ↦ hung_order e (length s.tree) (element q e) (p.grown.others e g) g (p.hung e h)
]

-- an element's nodes are at most the one that it brings
ends_of : (e : ℕ) (x : Element) → Brings e x → (start_of e x ≤ e + 1) × (stop_of e x ≤ e + 1)
ends_of e (Segment from to capacity) (inl h) = let a : to ≡ e + 1 = h.0 in let b : from ≤ e = h.1 in (omega arith, omega arith)
ends_of e (Segment from to capacity) (inr h) = let a : from ≡ e + 1 = h.0 in let b : to ≤ e = h.1 in (omega arith, omega arith)
ends_of e (Receipt place capacity) h = let b : place ≤ e = h in (omega arith, omega arith)
ends_of e (Delivery place capacity) h = let b : place ≤ e = h in (omega arith, omega arith)
ends_of e (Pool place) h = let b : place ≤ e = h in (omega arith, omega arith)

least_most : (ceiling floor j : ℕ) → least_part ceiling floor j ≤ most_part ceiling j
least_most ceiling floor j = let g : tenth_end ceiling j ≤ tenth_end ceiling (j + 1) = ends_grow ceiling j (j + 1) (omega arith) in omega (arith, g)

pos_up : (a b : ℕ) → a ≤ b → pos a ≤ℤ pos b
pos_up a b h = omega (arith, ints)

-- Each arc joins nodes of the question, and its bounds are in order.
pub sound : (q : Question) (n : Net) → HasLines q → AllBring q → FirstArcs q (length q.elements + 10 * length q.lines) n → AreSound (length q.elements + 1) n
sound q n lines g f =
    let w : IsWired q n = wired q n (arcs_all q n f) in
    record {
      from = λ a h. elim (by_arc q n w a h) [
        | inl k ↦ subst (λ v. v < length q.elements + 1) (sym (w.from a k)) (let p = (ends_of a (element q a) (g a k)).0 in omega (arith, p, k))
        | inr k ↦ subst (λ b. from_at n b < length q.elements + 1) (sym k.4) (subst (λ v. v < length q.elements + 1) (sym (w.line_from k.0 k.1 k.2 k.3)) (let p = (lines k.0 k.2).dest_known in omega (arith, p)))
      ];
      to = λ a h. elim (by_arc q n w a h) [
        | inl k ↦ subst (λ v. v < length q.elements + 1) (sym (w.to a k)) (let p = (ends_of a (element q a) (g a k)).1 in omega (arith, p, k))
        | inr k ↦ subst (λ b. to_at n b < length q.elements + 1) (sym k.4) (subst (λ v. v < length q.elements + 1) (sym (w.line_to k.0 k.1 k.2 k.3)) (let p = (lines k.0 k.2).origin_known in omega (arith, p)))
      ];
      lower = λ a h. elim (by_arc q n w a h) [
        | inl k ↦ rw (w.least a k) (pos_up 0 0 (omega arith))
        | inr k ↦ subst (λ b. pos 0 ≤ℤ lower_at n b) (sym k.4) (rw (w.line_least k.0 k.1 k.2 k.3) (pos_up 0 _ (omega arith)))
      ];
      bounds = λ a h. elim (by_arc q n w a h) [
        | inl k ↦ rw (w.least a k, w.most a k) (pos_up 0 _ (omega arith))
        | inr k ↦ subst (λ b. lower_at n b ≤ℤ upper_at n b) (sym k.4) (rw (w.line_least k.0 k.1 k.2 k.3, w.line_most k.0 k.1 k.2 k.3) (pos_up _ _ (least_most (line q k.0).ceiling (line q k.0).floor k.1)))
      ];
      upper = λ a h. f.small a;
    }

part_small : (ceiling n j : ℕ) → part_of ceiling n j ≤ n
part_small ceiling n j = by_test (j == 9) refl
  where
    by_test : (b : Bool) → (j == 9) ≡ b → part_of ceiling n j ≤ n
    by_test true e = rw e (omega arith)
    by_test false e = rw e (omega arith)

pos_sized : (n : ℕ) → n ≤ 1000000000 → IsSized (2 ^ 61) (pos n)
pos_sized n h = record { low = omega (arith, ints); high = omega (arith, ints) }

-- A schedule's flow has an amount for each arc, and none is large.
pub is_first : (q : Question) (n : Net) (x : List ℕ) (flow : List ℤ) → IsKnown q → IsNetwork q n → ((i : ℕ) → i < length q.lines → quantity x i ≤ 1000000000) → FirstFlows q x (length q.elements + 10 * length q.lines) flow → IsFirst n flow
is_first q n x flow known w small f = record {
  size = f.size ∙ sym w.size;
  small = λ a h. elim (by_arc q n (wired q n w) a h) [
    | inl k ↦ subst (IsSized (2 ^ 61)) (sym (of.loads a k)) (load_sized q x a (length q.lines) known.few_lines known.short small)
    | inr k ↦ subst (λ b. IsSized (2 ^ 61) (flow_at flow b)) (sym k.4)
        (subst (IsSized (2 ^ 61)) (sym (of.parts k.0 k.1 k.2 k.3)) (pos_sized _ (let p = part_small (line q k.0).ceiling (quantity x k.0) k.1 in let m = small k.0 k.2 in omega (arith, p, m))))
  ];
}
  where
    of : IsFlowOf q x flow
    of = flows_all q x flow f
