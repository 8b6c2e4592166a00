-- The excess over a network's arcs is that of the cut.
use Rattle.std.proofs.Common.{◌≡◌, ℕ, suc, zero, ◌<◌, List, length, refl, ap, ◌∙◌, subst, arith, Bool, true, false, not, ◌&&◌, inl, inr}
use Rattle.std.specs.Prelude.{ℤ, pos, ◌+ℤ◌, ◌-ℤ◌, neg_ℤ, ◌≤ℤ◌, ◌<ℤ◌, if◌then◌else◌, ◌⊎◌}
use borrow.Author.Differences.{ints}
use Rattle.gd_scale.specs.Sum.{sum_nat, sum_int}
use Rattle.gd_rules.specs.Question.{Element, Question, element, line}
use Rattle.gd_rules.specs.Question.Element.{Segment, Receipt, Delivery, Pool}
use Rattle.gd_rules.specs.Tree.{HasLines, IsLine, CanSend, CanTake}
use Rattle.gd_rules.specs.Cut.{Side, has_place, has_end, way_out, must_leave, may_enter, can_leave, excess, IsCut}
use Rattle.gd_network.specs.Arcs.{Net, from_at, to_at, lower_at, upper_at, most_of}
use Rattle.gd_question.specs.Nodes.{start, stop, start_of, stop_of, end_node, carried}
use Rattle.gd_network.proofs.Wiring.{IsWired}
use Rattle.gd_network.specs.Flow.{flow_at, IsCirculation, bound_of, arc_excess, IsSideOf, ElementAgrees, IsEdge, IsShort}
use Rattle.gd_scale.proofs.IntSums.{int_same, int_plus, int_less, all_pos}
use Rattle.gd_network.proofs.Parts.{excess_parts}

-- An arc that leads out counts its capacity, and one that leads in its lower bound 0.
out_only : (b c b2 c2 : Bool) (most : ℕ) → b2 ≡ b → c2 ≡ c → bound_of b c (pos 0) (pos most) ≡ neg_ℤ (pos (if b2 && not c2 then most else 0))
out_only true true b2 c2 most e f = rw (e, f) refl
out_only true false b2 c2 most e f = rw (e, f) refl
out_only false true b2 c2 most e f = rw e refl
out_only false false b2 c2 most e f = rw e refl

pool_free : (b c : Bool) → bound_of b c (pos 0) (pos 0) ≡ neg_ℤ (pos 0)
pool_free true true = refl
pool_free true false = refl
pool_free false true = refl
pool_free false false = refl

element_out : (side : Side) (inside : ℕ → Bool) (e : ℕ) (x : Element) → ElementAgrees side inside e x → bound_of (inside (start_of e x)) (inside (stop_of e x)) (pos 0) (pos (most_of x)) ≡ neg_ℤ (pos (way_out side e x))
element_out side inside e (Segment from to capacity) h = out_only (inside from) (inside to) (has_place side from) (has_place side to) capacity h.0 h.1
element_out side inside e (Receipt place capacity) h = out_only (inside (end_node e)) (inside place) (has_end side e) (has_place side place) capacity h.0 h.1
element_out side inside e (Delivery place capacity) h = out_only (inside place) (inside (end_node e)) (has_place side place) (has_end side e) capacity h.1 h.0
element_out side inside e (Pool place) h = pool_free (inside place) (inside (end_node e))

-- a line leads from its destination back to its origin
line_out : (d o d2 o2 : Bool) (floor ceiling : ℕ) → d2 ≡ d → o2 ≡ o → bound_of d o (pos floor) (pos ceiling) ≡ pos (if o2 && not d2 then floor else 0) +ℤ neg_ℤ (pos (if d2 && not o2 then ceiling else 0))
line_out true true d2 o2 floor ceiling e f = rw (e, f) refl
line_out true false d2 o2 floor ceiling e f = rw (e, f) (omega (arith, ints))
line_out false true d2 o2 floor ceiling e f = rw (e, f) (omega (arith, ints))
line_out false false d2 o2 floor ceiling e f = rw (e, f) refl

turned_sum : (n : ℕ) (f : ℕ → ℕ) → sum_int n (λ i. neg_ℤ (pos (f i))) ≡ neg_ℤ (pos (sum_nat n f))
turned_sum zero f = refl
turned_sum (suc n) f = ap (λ w. w +ℤ neg_ℤ (pos (f n))) (turned_sum n f) ∙ omega (arith, ints)

sends_agree : (side : Side) (inside : ℕ → Bool) (e : ℕ) (x : Element) → ElementAgrees side inside e x → CanSend x → has_end side e ≡ inside (end_node e)
sends_agree side inside e (Segment from to capacity) h k = absurd k
sends_agree side inside e (Receipt place capacity) h k = h.0
sends_agree side inside e (Delivery place capacity) h k = absurd k
sends_agree side inside e (Pool place) h k = h

takes_agree : (side : Side) (inside : ℕ → Bool) (e : ℕ) (x : Element) → ElementAgrees side inside e x → CanTake x → has_end side e ≡ inside (end_node e)
takes_agree side inside e (Segment from to capacity) h k = absurd k
takes_agree side inside e (Receipt place capacity) h k = absurd k
takes_agree side inside e (Delivery place capacity) h k = h.0
takes_agree side inside e (Pool place) h k = h

together : (can must may a : ℤ) → a ≡ neg_ℤ can +ℤ (must +ℤ neg_ℤ may) → a ≡ (must -ℤ may) -ℤ can
together can must may a h = omega (arith, ints)

-- The excess over arcs is that of the rule.
pub excess_is : (q : Question) (n : Net) (inside : ℕ → Bool) (side : Side) → HasLines q → IsWired q n → IsSideOf q inside side → arc_excess inside n ≡ excess q side
excess_is q n inside side lines w same =
    let must : ℕ → ℕ = λ i. if has_end side (line q i).origin && not (has_end side (line q i).dest) then (line q i).floor else 0 in
    let may : ℕ → ℕ = λ i. if has_end side (line q i).dest && not (has_end side (line q i).origin) then (line q i).ceiling else 0 in
    let out : ℕ → ℕ = λ e. way_out side e (element q e) in
    together (pos (can_leave q side)) (pos (must_leave q side)) (pos (may_enter q side)) (arc_excess inside n)
    (excess_parts q n w inside (λ i h. (lines i h).bounds)
    ∙ ap (λ z. z +ℤ sum_int (length q.lines) (λ i. bound_of (inside (end_node (line q i).dest)) (inside (end_node (line q i).origin)) (pos (line q i).floor) (pos (line q i).ceiling)))
    (int_same (length q.elements) (λ e. bound_of (inside (start q e)) (inside (stop q e)) (pos 0) (pos (most_of (element q e)))) (λ e. neg_ℤ (pos (out e))) (λ e h. element_out side inside e (element q e) (same e h))
    ∙ turned_sum (length q.elements) out)
    ∙ ap (λ z. neg_ℤ (pos (can_leave q side)) +ℤ z)
    (int_same (length q.lines) (λ i. bound_of (inside (end_node (line q i).dest)) (inside (end_node (line q i).origin)) (pos (line q i).floor) (pos (line q i).ceiling)) (λ i. pos (must i) +ℤ neg_ℤ (pos (may i)))
    (λ i h.
    let k : IsLine q (line q i) = lines i h in
    line_out (inside (end_node (line q i).dest)) (inside (end_node (line q i).origin)) (has_end side (line q i).dest) (has_end side (line q i).origin) (line q i).floor (line q i).ceiling
    (takes_agree side inside (line q i).dest (element q (line q i).dest) (same (line q i).dest k.dest_known) k.takes)
    (sends_agree side inside (line q i).origin (element q (line q i).origin) (same (line q i).origin k.origin_known) k.sends))
    ∙ int_plus (length q.lines) (λ i. pos (must i)) (λ i. neg_ℤ (pos (may i)))
    ∙ ap (λ z. z +ℤ sum_int (length q.lines) (λ i. neg_ℤ (pos (may i)))) (all_pos (length q.lines) must)
    ∙ ap (λ z. pos (must_leave q side) +ℤ z) (turned_sum (length q.lines) may)))

-- at the edge of the set an arc into it has its lower bound at most, and one out of it its upper bound at least
edge : (b c : Bool) (f low high : ℤ) → (b ≡ false → c ≡ true → f ≤ℤ low) → (b ≡ true → c ≡ false → high ≤ℤ f) → carried b c f ≤ℤ bound_of b c low high
edge true true f low high p k = omega (arith, ints)
edge true false f low high p k = let h : high ≤ℤ f = k refl refl in omega (arith, ints)
edge false true f low high p k = let h : f ≤ℤ low = p refl refl in omega (arith, ints)
edge false false f low high p k = omega (arith, ints)

short : (b c : Bool) (f low high : ℤ) → ((b ≡ false) × (c ≡ true) × (f <ℤ low)) ⊎ ((b ≡ true) × (c ≡ false) × (high <ℤ f)) → carried b c f <ℤ bound_of b c low high
short b c f low high (inl h) = rw (h.0, h.1) (let k : f <ℤ low = h.2 in omega (arith, ints))
short b c f low high (inr h) = rw (h.0, h.1) (let k : high <ℤ f = h.2 in omega (arith, ints))

-- The nodes that a search from a short arc reached are a cut.
pub reached_cut : (q : Question) (n : Net) (flow : List ℤ) (inside : ℕ → Bool) (side : Side) (j : ℕ) → HasLines q → IsWired q n → IsSideOf q inside side → IsCirculation n flow → IsEdge n flow inside → j < length n → IsShort n flow inside j → IsCut q side
reached_cut q n flow inside side j lines w same balance at_edge within is_short =
    subst (λ z. pos 0 <ℤ z) (excess_is q n inside side lines w same)
    (subst (λ z. z <ℤ arc_excess inside n) (balance inside)
    (int_less (length n) (λ a. carried (inside (from_at n a)) (inside (to_at n a)) (flow_at flow a)) (λ a. bound_of (inside (from_at n a)) (inside (to_at n a)) (lower_at n a) (upper_at n a)) j
    (λ a h. edge (inside (from_at n a)) (inside (to_at n a)) (flow_at flow a) (lower_at n a) (upper_at n a) (at_edge.into a h) (at_edge.out a h))
    within
    (short (inside (from_at n j)) (inside (to_at n j)) (flow_at flow j) (lower_at n j) (upper_at n j) is_short)))
