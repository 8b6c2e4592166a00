-- A flow within its bounds that balances is an allowed schedule, and the other way round.
use Rattle.std.proofs.Common.{◌≡◌, ℕ, ◌+◌, ◌-◌, ◌*◌, ◌/◌, ◌%◌, ◌<◌, ◌≤◌, List, length, refl, sym, ap, ◌∙◌, subst, arith, Bool, true, false, inl, inr}
use Rattle.std.specs.Prelude.{ℤ, pos, ◌≤ℤ◌, ◌==◌, ◌⊎◌}
use Rattle.std.proofs.lemmas.Bool.{cases_lt}
use borrow.Author.Differences.{ints}
use borrow.Author.Tests.{eqb-true}
use Rattle.gd_scale.specs.Sum.{sum_int}
use Rattle.gd_rules.specs.Question.{Element, Question, element, line}
use Rattle.gd_rules.specs.Question.Element.{Segment, Receipt, Delivery, Pool}
use Rattle.gd_rules.specs.Schedule.{quantity, load, Holds, IsAllowed}
use Rattle.gd_rules.specs.Spread.{tenth_end}
use Rattle.gd_rules.specs.Tree.{HasLines}
use Rattle.gd_rules.proofs.Duality.{load_up}
use Rattle.gd_network.specs.Arcs.{Net, lower_at, upper_at, tenth_arc, most_of, most_part, least_part}
use Rattle.gd_question.specs.Nodes.{AllBring}
use Rattle.gd_network.proofs.Wiring.{IsWired}
use Rattle.gd_network.specs.Flow.{flow_at, IsCirculation, IsWithin, IsFlowOf, IsScheduleOf, part_of}
use Rattle.gd_scale.proofs.IntSums.{int_at_most, all_pos}
use Rattle.gd_network.proofs.Tens.{most_ten, least_ten, ends_grow, last_end}
use Rattle.gd_network.proofs.Balance.{loads_are}

pub tenth_in : (q : Question) (n : Net) → IsWired q n → (i j : ℕ) → i < length q.lines → j < 10 → tenth_arc q i j < length n
tenth_in q n w i j h k = let e : length n ≡ length q.elements + 10 * length q.lines = w.size in omega arith

pub element_in : (q : Question) (n : Net) → IsWired q n → (e : ℕ) → e < length q.elements → e < length n
element_in q n w e h = let s : length n ≡ length q.elements + 10 * length q.lines = w.size in omega arith

-- an arc is that of an element, or that of a line's tenth
pub by_arc : (q : Question) (n : Net) → IsWired q n → (a : ℕ) → a < length n → (a < length q.elements) ⊎ ((i : ℕ) × (j : ℕ) × (i < length q.lines) × (j < 10) × (a ≡ tenth_arc q i j))
by_arc q n w a h = elim (cases_lt a (length q.elements)) [
  | inl g ↦ inl g
  | inr g ↦ let s : length n ≡ length q.elements + 10 * length q.lines = w.size in inr ((a - length q.elements) / 10, (a - length q.elements) % 10, omega arith, omega arith, omega arith)
]

least_of_line : (q : Question) (n : Net) (flow : List ℤ) → IsWired q n → IsWithin n flow → (i : ℕ) → i < length q.lines → (line q i).floor ≤ (line q i).ceiling → pos (line q i).floor ≤ℤ sum_int 10 (λ j. flow_at flow (tenth_arc q i j))
least_of_line q n flow w within i h bounds =
    subst (λ z. z ≤ℤ sum_int 10 (λ j. flow_at flow (tenth_arc q i j))) (all_pos 10 (λ j. least_part (line q i).ceiling (line q i).floor j) ∙ ap pos (least_ten (line q i).ceiling (line q i).floor bounds))
    (int_at_most 10 (λ j. pos (least_part (line q i).ceiling (line q i).floor j)) (λ j. flow_at flow (tenth_arc q i j))
    (λ j k. subst (λ z. z ≤ℤ flow_at flow (tenth_arc q i j)) (w.line_least i j h k) (within.above (tenth_arc q i j) (tenth_in q n w i j h k))))

pub most_of_line : (q : Question) (n : Net) (flow : List ℤ) → IsWired q n → IsWithin n flow → (i : ℕ) → i < length q.lines → sum_int 10 (λ j. flow_at flow (tenth_arc q i j)) ≤ℤ pos (line q i).ceiling
most_of_line q n flow w within i h =
    subst (λ z. sum_int 10 (λ j. flow_at flow (tenth_arc q i j)) ≤ℤ z) (all_pos 10 (λ j. most_part (line q i).ceiling j) ∙ ap pos (most_ten (line q i).ceiling))
    (int_at_most 10 (λ j. flow_at flow (tenth_arc q i j)) (λ j. pos (most_part (line q i).ceiling j))
    (λ j k. subst (λ z. flow_at flow (tenth_arc q i j) ≤ℤ z) (w.line_most i j h k) (within.below (tenth_arc q i j) (tenth_in q n w i j h k))))

pos_least : (a b : ℕ) (z : ℤ) → pos b ≡ z → pos a ≤ℤ z → a ≤ b
pos_least a b z e h = let g : pos a ≤ℤ pos b = rw e h in omega (arith, ints)

pub pos_most : (a b : ℕ) (z : ℤ) → pos b ≡ z → z ≤ℤ pos a → b ≤ a
pos_most a b z e h = let g : pos b ≤ℤ pos a = rw e h in omega (arith, ints)

holds_load : (x : Element) (z : ℤ) → pos 0 ≤ℤ z → z ≤ℤ pos (most_of x) → Holds x z
holds_load (Segment from to capacity) z lo hi = hi
holds_load (Receipt place capacity) z lo hi = hi
holds_load (Delivery place capacity) z lo hi = hi
holds_load (Pool place) z lo hi = omega (arith, ints)

-- The schedule of a circulation within bounds is allowed.
pub schedule_allowed : (q : Question) (n : Net) (flow : List ℤ) (schedule : List ℕ) → HasLines q → AllBring q → IsWired q n → IsCirculation n flow → IsWithin n flow → IsScheduleOf q flow schedule → IsAllowed q schedule
schedule_allowed q n flow x lines grown w balance within of = record {
  shape = of.shape;
  floors = λ i h. pos_least (line q i).floor (quantity x i) (sum_int 10 (λ j. flow_at flow (tenth_arc q i j))) (of.sums i h) (least_of_line q n flow w within i h (lines i h).bounds);
  ceilings = λ i h. pos_most (line q i).ceiling (quantity x i) (sum_int 10 (λ j. flow_at flow (tenth_arc q i j))) (of.sums i h) (most_of_line q n flow w within i h);
  loads = λ e h.
      subst (Holds (element q e)) (sym (loads_are q n flow x lines grown w balance of e h))
      (holds_load (element q e) (flow_at flow e)
      (subst (λ z. z ≤ℤ flow_at flow e) (w.least e h) (within.above e (element_in q n w e h)))
      (subst (λ z. flow_at flow e ≤ℤ z) (w.most e h) (within.below e (element_in q n w e h))));
}

part_within : (ceiling floor n j : ℕ) → j < 10 → floor ≤ n → n ≤ ceiling → (least_part ceiling floor j ≤ part_of ceiling n j) × (part_of ceiling n j ≤ most_part ceiling j)
part_within ceiling floor n j h lo hi = by_test (j == 9) refl
  where
    by_test : (b : Bool) → (j == 9) ≡ b → (least_part ceiling floor j ≤ part_of ceiling n j) × (part_of ceiling n j ≤ most_part ceiling j)
    by_test true e =
        let k : j ≡ 9 = eqb-true j 9 e in
        let g : tenth_end ceiling j ≤ tenth_end ceiling (j + 1) = ends_grow ceiling j (j + 1) (omega arith) in
        let last : tenth_end ceiling (j + 1) ≡ ceiling = ap (λ m. tenth_end ceiling (m + 1)) k ∙ last_end ceiling in
        rw e (omega (arith, g, last), omega (arith, g, last))
    by_test false e =
        let g : tenth_end ceiling j ≤ tenth_end ceiling (j + 1) = ends_grow ceiling j (j + 1) (omega arith) in
        rw e (omega (arith, g), omega (arith, g))

pos_up : (a b : ℕ) → a ≤ b → pos a ≤ℤ pos b
pos_up a b h = omega (arith, ints)

load_least : (q : Question) (schedule : List ℕ) (e : ℕ) → Holds (element q e) (load q schedule e) → pos 0 ≤ℤ load q schedule e
load_least q x e h = by_element (element q e) refl
  where
    by_element : (y : Element) → element q e ≡ y → pos 0 ≤ℤ load q x e
    by_element (Segment from to capacity) g = load_up q x e (λ place k. absurd (let m : Segment from to capacity ≡ Pool place = sym g ∙ k in cc))
    by_element (Receipt place capacity) g = load_up q x e (λ place2 k. absurd (let m : Receipt place capacity ≡ Pool place2 = sym g ∙ k in cc))
    by_element (Delivery place capacity) g = load_up q x e (λ place2 k. absurd (let m : Delivery place capacity ≡ Pool place2 = sym g ∙ k in cc))
    by_element (Pool place) g = let m : load q x e ≡ pos 0 = subst (λ y. Holds y (load q x e)) g h in omega (arith, ints)

load_most : (x : Element) (z : ℤ) → Holds x z → z ≤ℤ pos (most_of x)
load_most (Segment from to capacity) z h = h
load_most (Receipt place capacity) z h = h
load_most (Delivery place capacity) z h = h
load_most (Pool place) z h = let g : z ≡ pos 0 = h in omega (arith, ints)

-- The flow of an allowed schedule is within bounds.
pub flow_within : (q : Question) (n : Net) (schedule : List ℕ) (flow : List ℤ) → IsWired q n → IsFlowOf q schedule flow → IsAllowed q schedule → IsWithin n flow
flow_within q n x flow w of allowed = record {
  above = λ a h. elim (by_arc q n w a h) [
    | inl g ↦ rw (w.least a g, of.loads a g) (load_least q x a (allowed.loads a g))
    | inr g ↦
        subst (λ b. lower_at n b ≤ℤ flow_at flow b) (sym g.4)
        (rw (w.line_least g.0 g.1 g.2 g.3, of.parts g.0 g.1 g.2 g.3) (pos_up _ _ (part_within (line q g.0).ceiling (line q g.0).floor (quantity x g.0) g.1 g.3 (allowed.floors g.0 g.2) (allowed.ceilings g.0 g.2)).0))
  ];
  below = λ a h. elim (by_arc q n w a h) [
    | inl g ↦ rw (w.most a g, of.loads a g) (load_most (element q a) (load q x a) (allowed.loads a g))
    | inr g ↦
        subst (λ b. flow_at flow b ≤ℤ upper_at n b) (sym g.4)
        (rw (w.line_most g.0 g.1 g.2 g.3, of.parts g.0 g.1 g.2 g.3) (pos_up _ _ (part_within (line q g.0).ceiling (line q g.0).floor (quantity x g.0) g.1 g.3 (allowed.floors g.0 g.2) (allowed.ceilings g.0 g.2)).1))
  ];
}
