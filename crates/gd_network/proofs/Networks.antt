-- Each question has its network, each schedule its flow, each flow within bounds its schedule, and potentials have their prices.
use Rattle.std.proofs.Common.{◌≡◌, ℕ, ◌+◌, ◌-◌, ◌*◌, ◌/◌, ◌%◌, ◌<◌, ◌≤◌, List, length, map, get_or, refl, sym, ap, ◌∙◌, subst, arith, false, nat_lt}
use Rattle.std.specs.Prelude.{ℤ, pos, ◌≤ℤ◌, unsigned_abs, negsuc}
use Rattle.std.proofs.lemmas.List.FromFn.{get_or-map-range_with_len, length-map-range_with_len}
use Rattle.std.specs.List.{range_with_len}
use borrow.Author.Differences.{ints}
use borrow.Author.Tests.{ltb-true, ltb-false, lt-ltb}
use Rattle.gd_scale.specs.Sum.{sum_nat}
use Rattle.gd_scale.specs.Scale.{Scale}
use Rattle.gd_scale.specs.Laws.{less}
use Rattle.gd_rules.specs.Question.{Question, element, line}
use Rattle.gd_rules.specs.Schedule.{quantity, load}
use Rattle.gd_network.specs.Arcs.{Net, IsNetwork, tenth_arc, element_arc, line_arc, no_arc, least_part}
use Rattle.gd_question.specs.Nodes.{start, stop}
use Rattle.gd_network.proofs.Wiring.{IsWired}
use Rattle.gd_network.specs.Entries.{by_kind, arc_is}
use Rattle.gd_network.specs.Flow.{flow_at, IsWithin, IsFlowOf, IsScheduleOf, part_of}
use Rattle.gd_network.specs.Potential.{ArePrices}
use Rattle.gd_scale.proofs.IntSums.{int_same, all_pos}
use Rattle.gd_network.proofs.Tens.{part_ten}
use Rattle.gd_network.proofs.Allowed.{tenth_in}

-- the list of f 0, f 1 and so on, n long
abbrev pub listed : {X : Type 0} → ℕ → (ℕ → X) → List X
listed n f = map f (range_with_len 0 n)

pub length_listed : {X : Type 0} (n : ℕ) (f : ℕ → X) → length (listed n f) ≡ n
length_listed n f = length-map-range_with_len f 0 n

pub listed_at : {X : Type 0} (n : ℕ) (f : ℕ → X) (k : ℕ) (d : X) → k < n → get_or (listed n f) k d ≡ f k
listed_at n f k d h = get_or-map-range_with_len f 0 n k k d h (omega arith)

abbrev pub prices_of : {V : Type 0} → Scale V → Question → (ℕ → V) → List V
prices_of s q label = listed (length q.elements) (λ e. less s (label (start q e)) (label (stop q e)))

pub prices_are : {V : Type 0} (s : Scale V) (q : Question) (label : ℕ → V) → ArePrices s q label (prices_of s q label)
prices_are s q label = record {
  shape = length_listed (length q.elements) (λ e. less s (label (start q e)) (label (stop q e)));
  falls = λ e h. listed_at (length q.elements) (λ e. less s (label (start q e)) (label (stop q e))) e s.none h;
}

pub kind_element : {X : Type 0} (q : Question) (f : ℕ → X) (g : ℕ → ℕ → X) (e : ℕ) → e < length q.elements → by_kind q f g e ≡ f e
kind_element q f g e h = rw (lt-ltb e (length q.elements) h) refl

pub kind_tenth : {X : Type 0} (q : Question) (f : ℕ → X) (g : ℕ → ℕ → X) (i j : ℕ) → j < 10 → by_kind q f g (tenth_arc q i j) ≡ g i j
kind_tenth q f g i j h =
    let t : nat_lt (tenth_arc q i j) (length q.elements) ≡ false = not_lt (tenth_arc q i j) (length q.elements) (omega arith) in
    let a : (tenth_arc q i j - length q.elements) / 10 ≡ i = omega arith in
    let b : (tenth_arc q i j - length q.elements) % 10 ≡ j = omega arith in
    rw t (ap (λ m. g m ((tenth_arc q i j - length q.elements) % 10)) a ∙ ap (g i) b)
  where
    not_lt : (m n : ℕ) → n ≤ m → nat_lt m n ≡ false
    not_lt m n h = grind (arith, ltb-true, ltb-false)

abbrev pub arc_list : {X : Type 0} → Question → (ℕ → X) → (ℕ → ℕ → X) → List X
arc_list q f g = listed (length q.elements + 10 * length q.lines) (by_kind q f g)

element_at : {X : Type 0} (q : Question) (f : ℕ → X) (g : ℕ → ℕ → X) (d : X) (e : ℕ) → e < length q.elements → get_or (arc_list q f g) e d ≡ f e
element_at q f g d e h = listed_at (length q.elements + 10 * length q.lines) (by_kind q f g) e d (omega arith) ∙ kind_element q f g e h

tenth_at : {X : Type 0} (q : Question) (f : ℕ → X) (g : ℕ → ℕ → X) (d : X) (i j : ℕ) → i < length q.lines → j < 10 → get_or (arc_list q f g) (tenth_arc q i j) d ≡ g i j
tenth_at q f g d i j h k = listed_at (length q.elements + 10 * length q.lines) (by_kind q f g) (tenth_arc q i j) d (omega arith) ∙ kind_tenth q f g i j k

-- The network of a question.
abbrev pub network_of : Question → Net
network_of q = arc_list q (λ e. element_arc e (element q e)) (λ i j. line_arc (line q i) j)

pub network_is : (q : Question) → IsNetwork q (network_of q)
network_is q = record {
  size = length_listed (length q.elements + 10 * length q.lines) (arc_is q);
  elements = element_at q (λ e. element_arc e (element q e)) (λ i j. line_arc (line q i) j) no_arc;
  tenths = tenth_at q (λ e. element_arc e (element q e)) (λ i j. line_arc (line q i) j) no_arc;
}

-- The flow of a schedule.
abbrev pub flow_of : Question → List ℕ → List ℤ
flow_of q schedule = arc_list q (load q schedule) (λ i j. pos (part_of (line q i).ceiling (quantity schedule i) j))

pub flow_is : (q : Question) (schedule : List ℕ) → IsFlowOf q schedule (flow_of q schedule)
flow_is q x = record {
  loads = element_at q (load q x) (λ i j. pos (part_of (line q i).ceiling (quantity x i) j)) (pos 0);
  parts = tenth_at q (load q x) (λ i j. pos (part_of (line q i).ceiling (quantity x i) j)) (pos 0);
}

abs_is : (z : ℤ) → pos 0 ≤ℤ z → pos (unsigned_abs z) ≡ z
abs_is (pos n) h = refl
abs_is (negsuc n) h = absurd (omega (arith, ints))

up_from : (a : ℕ) (z : ℤ) → pos a ≤ℤ z → pos 0 ≤ℤ z
up_from a z h = omega (arith, ints)

-- The schedule of a flow.
abbrev pub schedule_of : Question → List ℤ → List ℕ
schedule_of q flow = listed (length q.lines) (λ i. sum_nat 10 (λ j. unsigned_abs (flow_at flow (tenth_arc q i j))))

pub schedule_is : (q : Question) (n : Net) (flow : List ℤ) → IsWired q n → IsWithin n flow → IsScheduleOf q flow (schedule_of q flow)
schedule_is q n flow w within = record {
  shape = length_listed (length q.lines) (λ i. sum_nat 10 (λ j. unsigned_abs (flow_at flow (tenth_arc q i j))));
  sums = λ i h.
      ap pos (listed_at (length q.lines) (λ i. sum_nat 10 (λ j. unsigned_abs (flow_at flow (tenth_arc q i j)))) i 0 h)
      ∙ sym (all_pos 10 (λ j. unsigned_abs (flow_at flow (tenth_arc q i j))))
      ∙ int_same 10 (λ j. pos (unsigned_abs (flow_at flow (tenth_arc q i j)))) (λ j. flow_at flow (tenth_arc q i j))
      (λ j k. abs_is (flow_at flow (tenth_arc q i j))
      (up_from (least_part (line q i).ceiling (line q i).floor j) (flow_at flow (tenth_arc q i j))
      (subst (λ z. z ≤ℤ flow_at flow (tenth_arc q i j)) (w.line_least i j h k) (within.above (tenth_arc q i j) (tenth_in q n w i j h k)))));
}

-- A schedule's flow has it back.
pub schedule_back : (q : Question) (schedule : List ℕ) (flow : List ℤ) → length schedule ≡ length q.lines → IsFlowOf q schedule flow → IsScheduleOf q flow schedule
schedule_back q x flow shape of = record {
  shape = shape;
  sums = λ i h. sym
      (int_same 10 (λ j. flow_at flow (tenth_arc q i j)) (λ j. pos (part_of (line q i).ceiling (quantity x i) j)) (λ j k. of.parts i j h k)
      ∙ all_pos 10 (λ j. part_of (line q i).ceiling (quantity x i) j)
      ∙ ap pos (part_ten (line q i).ceiling (quantity x i)));
}
