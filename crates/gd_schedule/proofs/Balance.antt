-- Loads balance, and what balances as loads do is the loads.
use Rattle.std.proofs.Common.{◌≡◌, ◌≢◌, ℕ, suc, zero, ◌+◌, ◌<◌, ◌≤◌, List, length, refl, sym, ap, ◌∙◌, arith, Bool, true, false, inl, inr}
use Rattle.std.specs.Prelude.{ℤ, pos, negsuc, ◌+ℤ◌, neg_ℤ, if◌then◌else◌, ◌==◌, ◌⊎◌}
use Rattle.std.proofs.lemmas.Bool.{cases_eq}
use borrow.Author.Differences.{ints}
use borrow.Author.Tests.{eqb-true, eqb-false}
use Rattle.gd_scale.specs.Sum.{sum_int}
use Rattle.gd_scale.specs.Scale.{repeated, multiple}
use Rattle.gd_scale.specs.Laws.{less}
use Rattle.gd_scale.specs.Sizes.{whole}
use Rattle.gd_scale.proofs.Words.{whole_lawful}
use Rattle.gd_rules.specs.Question.{Element, Question, element, line, crossing}
use Rattle.gd_rules.specs.Question.Element.{Segment, Receipt, Delivery, Pool}
use Rattle.gd_rules.specs.Schedule.{quantity, load}
use Rattle.gd_rules.specs.Tree.{HasLines}
use Rattle.gd_rules.proofs.Duality.{revenue}
use Rattle.gd_scale.proofs.IntSums.{int_same, int_one}
use Rattle.gd_question.specs.Nodes.{AllBring, Brings, start, stop, start_of, stop_of, end_node, anchor, carried}
use Rattle.gd_schedule.proofs.Telescope.{line_rise}

-- what so much through the elements, and so much back over the lines, carries into a set
abbrev pub by_parts : Question → (ℕ → Bool) → (ℕ → ℤ) → (ℕ → ℤ) → ℤ
by_parts q inside f g =
    sum_int (length q.elements) (λ e. carried (inside (start q e)) (inside (stop q e)) (f e))
    +ℤ sum_int (length q.lines) (λ i. carried (inside (end_node (line q i).dest)) (inside (end_node (line q i).origin)) (g i))

pub by_parts_same : (q : Question) (inside : ℕ → Bool) (f f2 g g2 : ℕ → ℤ) → ((e : ℕ) → e < length q.elements → f e ≡ f2 e) → ((i : ℕ) → i < length q.lines → g i ≡ g2 i) → by_parts q inside f g ≡ by_parts q inside f2 g2
by_parts_same q inside f f2 g g2 h k =
    ap (λ w. w +ℤ sum_int (length q.lines) (λ i. carried (inside (end_node (line q i).dest)) (inside (end_node (line q i).origin)) (g i)))
    (int_same (length q.elements) (λ e. carried (inside (start q e)) (inside (stop q e)) (f e)) (λ e. carried (inside (start q e)) (inside (stop q e)) (f2 e)) (λ e m. ap (carried (inside (start q e)) (inside (stop q e))) (h e m)))
    ∙ ap (λ w. sum_int (length q.elements) (λ e. carried (inside (start q e)) (inside (stop q e)) (f2 e)) +ℤ w)
    (int_same (length q.lines) (λ i. carried (inside (end_node (line q i).dest)) (inside (end_node (line q i).origin)) (g i)) (λ i. carried (inside (end_node (line q i).dest)) (inside (end_node (line q i).origin)) (g2 i)) (λ i m. ap (carried (inside (end_node (line q i).dest)) (inside (end_node (line q i).origin))) (k i m)))

-- 1 inside, 0 outside
abbrev pub one_if : Bool → ℤ
one_if b = if b then pos 1 else pos 0

rep_zero : (n : ℕ) → repeated whole n (pos 0) ≡ pos 0
rep_zero zero = refl
rep_zero (suc n) = ap (λ w. w +ℤ pos 0) (rep_zero n)

rep_one : (n : ℕ) → repeated whole n (pos 1) ≡ pos n
rep_one zero = refl
rep_one (suc n) = ap (λ w. w +ℤ pos 1) (rep_one n) ∙ omega (arith, ints)

rep_less : (n : ℕ) → repeated whole n (negsuc 0) ≡ neg_ℤ (pos n)
rep_less zero = refl
rep_less (suc n) = ap (λ w. w +ℤ negsuc 0) (rep_less n) ∙ omega (arith, ints)

times_zero : (z : ℤ) → multiple whole z (pos 0) ≡ pos 0
times_zero (pos n) = rep_zero n
times_zero (negsuc n) = ap neg_ℤ (rep_zero (suc n))

times_one : (z : ℤ) → multiple whole z (pos 1) ≡ z
times_one (pos n) = rep_one n
times_one (negsuc n) = ap neg_ℤ (rep_one (suc n))

times_less : (z : ℤ) → multiple whole z (negsuc 0) ≡ neg_ℤ z
times_less (pos n) = rep_less n
times_less (negsuc n) = ap neg_ℤ (rep_less (suc n))

-- what an arc carries is its flow times what it rises
carried_is : (b c : Bool) (z : ℤ) → carried b c z ≡ multiple whole z (less whole (one_if c) (one_if b))
carried_is true true z = let h : multiple whole z (pos 0) ≡ pos 0 = times_zero z in omega (arith, ints)
carried_is true false z = let h : multiple whole z (negsuc 0) ≡ neg_ℤ z = times_less z in omega (arith, ints)
carried_is false true z = let h : multiple whole z (pos 1) ≡ z = times_one z in omega (arith, ints)
carried_is false false z = let h : multiple whole z (pos 0) ≡ pos 0 = times_zero z in omega (arith, ints)

-- and the arcs of a line lead back
carried_back : (d o : Bool) (n : ℕ) → carried d o (pos n) ≡ neg_ℤ (repeated whole n (less whole (one_if d) (one_if o)))
carried_back true true n = let h : repeated whole n (pos 0) ≡ pos 0 = rep_zero n in omega (arith, ints)
carried_back true false n = let h : repeated whole n (pos 1) ≡ pos n = rep_one n in omega (arith, ints)
carried_back false true n = let h : repeated whole n (negsuc 0) ≡ neg_ℤ (pos n) = rep_less n in omega (arith, ints)
carried_back false false n = let h : repeated whole n (pos 0) ≡ pos 0 = rep_zero n in omega (arith, ints)

cancel_sum : (n : ℕ) (f : ℕ → ℤ) → sum_int n f +ℤ sum_int n (λ i. neg_ℤ (f i)) ≡ pos 0
cancel_sum zero f = refl
cancel_sum (suc n) f = let h : sum_int n f +ℤ sum_int n (λ i. neg_ℤ (f i)) ≡ pos 0 = cancel_sum n f in omega (arith, ints)

-- loads through the elements and quantities back over the lines carry nothing into any set
pub loads_balance : (q : Question) (schedule : List ℕ) (inside : ℕ → Bool) → HasLines q → by_parts q inside (load q schedule) (λ i. pos (quantity schedule i)) ≡ pos 0
loads_balance q x inside lines =
    let label : ℕ → ℤ = λ v. one_if (inside v) in
    let p : ℕ → ℤ = λ e. less whole (label (stop q e)) (label (start q e)) in
    let rises : ℕ → ℤ = λ i. repeated whole (quantity x i) (less whole (label (end_node (line q i).dest)) (label (end_node (line q i).origin))) in
    ap (λ w. w +ℤ sum_int (length q.lines) (λ i. carried (inside (end_node (line q i).dest)) (inside (end_node (line q i).origin)) (pos (quantity x i))))
    (int_same (length q.elements) (λ e. carried (inside (start q e)) (inside (stop q e)) (load q x e)) (λ e. multiple whole (load q x e) (p e)) (λ e _. carried_is (inside (start q e)) (inside (stop q e)) (load q x e))
    ∙ sym (revenue whole whole_lawful q x p)
    ∙ int_same (length q.lines) (λ i. repeated whole (quantity x i) (sum_int (length q.elements) (λ e. multiple whole (crossing q i e) (p e)))) rises (λ i h. ap (repeated whole (quantity x i)) (line_rise whole whole_lawful label q i (lines i h))))
    ∙ ap (λ w. sum_int (length q.lines) rises +ℤ w)
    (int_same (length q.lines) (λ i. carried (inside (end_node (line q i).dest)) (inside (end_node (line q i).origin)) (pos (quantity x i))) (λ i. neg_ℤ (rises i)) (λ i _. carried_back (inside (end_node (line q i).dest)) (inside (end_node (line q i).origin)) (quantity x i)))
    ∙ cancel_sum (length q.lines) rises

-- An element's nodes are the one that it brings and an earlier one, either way round.
pub record Joins (e : ℕ) (x : Element) : Type 0 where
  pub earlier : anchor e x ≤ e
  pub ends : ((start_of e x ≡ e + 1) × (stop_of e x ≡ anchor e x)) ⊎ ((start_of e x ≡ anchor e x) × (stop_of e x ≡ e + 1))

pub joined : (e : ℕ) (x : Element) → Brings e x → Joins e x
joined e (Segment from to capacity) (inl h) = let a : to ≡ e + 1 = h.0 in let b : from ≤ e = h.1 in record { earlier = omega arith; ends = inr (omega arith, a) }
joined e (Segment from to capacity) (inr h) = let a : from ≡ e + 1 = h.0 in let b : to ≤ e = h.1 in record { earlier = omega arith; ends = inl (a, omega arith) }
joined e (Receipt place capacity) h = record { earlier = h; ends = inl (refl, refl) }
joined e (Delivery place capacity) h = record { earlier = h; ends = inr (refl, refl) }
joined e (Pool place) h = record { earlier = h; ends = inr (refl, refl) }

-- f with another answer at m
abbrev with_node : (ℕ → Bool) → ℕ → Bool → ℕ → Bool
with_node f m b v = if v == m then b else f v

with_at : (f : ℕ → Bool) (m v : ℕ) (b : Bool) → v ≡ m → with_node f m b v ≡ b
with_at f m v b h = by_test (v == m) refl
  where
    by_test : (t : Bool) → (v == m) ≡ t → with_node f m b v ≡ b
    by_test true e = rw e refl
    by_test false e = absurd (eqb-false v m e h)

with_other : (f : ℕ → Bool) (m v : ℕ) (b : Bool) → v ≢ m → with_node f m b v ≡ f v
with_other f m v b h = by_test (v == m) refl
  where
    by_test : (t : Bool) → (v == m) ≡ t → with_node f m b v ≡ f v
    by_test true e = absurd (h (eqb-true v m e))
    by_test false e = rw e refl

-- Of the nodes that the first n elements bring, those that lie behind element k, which brings node k + 1.
behind : Question → ℕ → ℕ → ℕ → Bool
behind q k zero v = false
behind q k (suc n) v = with_node (behind q k n) (n + 1) (with_node (λ m. behind q k n (anchor m (element q m))) k true n) v

module _ (q : Question) (k : ℕ) (grown : AllBring q) where
  behind_next : (n v : ℕ) → behind q k (suc n) v ≡ with_node (behind q k n) (n + 1) (with_node (λ m. behind q k n (anchor m (element q m))) k true n) v
  unfolding behind
  behind_next n v = refl

  kept : (n v : ℕ) → v ≤ n → behind q k (suc n) v ≡ behind q k n v
  kept n v h = behind_next n v ∙ with_other (behind q k n) (n + 1) v (with_node (λ m. behind q k n (anchor m (element q m))) k true n) (λ e. absurd (omega arith))

  own : (n : ℕ) → n ≡ k → behind q k (suc n) (n + 1) ≡ true
  own n h = behind_next n (n + 1) ∙ with_at (behind q k n) (n + 1) (n + 1) (with_node (λ m. behind q k n (anchor m (element q m))) k true n) refl ∙ with_at (λ m. behind q k n (anchor m (element q m))) k n true h

  brought : (n : ℕ) → n ≢ k → behind q k (suc n) (n + 1) ≡ behind q k n (anchor n (element q n))
  brought n h = behind_next n (n + 1) ∙ with_at (behind q k n) (n + 1) (n + 1) (with_node (λ m. behind q k n (anchor m (element q m))) k true n) refl ∙ with_other (λ m. behind q k n (anchor m (element q m))) k n true h

  -- nothing lies behind it before it comes
  nothing : (n v : ℕ) → n ≤ k → behind q k n v ≡ false
  unfolding behind
  nothing zero v h = refl
  nothing (suc n) v h = elim (cases_eq v (n + 1)) [
    | inl e ↦ ap (behind q k (suc n)) e ∙ brought n (λ g. absurd (omega arith)) ∙ nothing n (anchor n (element q n)) (omega arith)
    | inr e ↦ behind_next n v ∙ with_other (behind q k n) (n + 1) v (with_node (λ m. behind q k n (anchor m (element q m))) k true n) e ∙ nothing n v (omega arith)
  ]

  -- another element has both its nodes on one side
  level : (n e : ℕ) → n ≤ length q.elements → e < n → e ≢ k → behind q k n (e + 1) ≡ behind q k n (anchor e (element q e))
  level zero e h within other = absurd (omega arith)
  level (suc n) e h within other =
      let j : anchor e (element q e) ≤ e = (joined e (element q e) (grown e (omega arith))).earlier in
      elim (cases_eq e n) [
        | inl g ↦ ap (λ m. behind q k (suc n) (m + 1)) g ∙ brought n (λ m. other (g ∙ m)) ∙ ap (λ m. behind q k n (anchor m (element q m))) (sym g) ∙ sym (kept n (anchor e (element q e)) (omega arith))
        | inr g ↦ kept n (e + 1) (omega arith) ∙ level n e (omega arith) (omega arith) other ∙ sym (kept n (anchor e (element q e)) (omega arith))
      ]

  -- its own nodes lie on two
  parted : (n : ℕ) → n ≤ length q.elements → k < n → (behind q k n (k + 1) ≡ true) × (behind q k n (anchor k (element q k)) ≡ false)
  parted zero h within = absurd (omega arith)
  parted (suc n) h within =
      let j : anchor k (element q k) ≤ k = (joined k (element q k) (grown k (omega arith))).earlier in
      elim (cases_eq n k) [
        | inl g ↦ (ap (λ m. behind q k (suc n) (m + 1)) (sym g) ∙ own n g, kept n (anchor k (element q k)) (omega arith) ∙ nothing n (anchor k (element q k)) (omega arith))
        | inr g ↦
            let r : (behind q k n (k + 1) ≡ true) × (behind q k n (anchor k (element q k)) ≡ false) = parted n (omega arith) (omega arith) in
            (kept n (k + 1) (omega arith) ∙ r.0, kept n (anchor k (element q k)) (omega arith) ∙ r.1)
      ]

  one_side : (b c : Bool) (z : ℤ) → b ≡ c → carried b c z ≡ pos 0
  one_side true true z h = omega (arith, ints)
  one_side true false z h = absurd (let g : true ≡ false = h in cc)
  one_side false true z h = absurd (let g : false ≡ true = h in cc)
  one_side false false z h = omega (arith, ints)

  two_sides : (b c : Bool) (y z : ℤ) → ((b ≡ true) × (c ≡ false)) ⊎ ((b ≡ false) × (c ≡ true)) → carried b c y ≡ carried b c z → y ≡ z
  two_sides true true y z (inl h) e = absurd (let g : true ≡ false = h.1 in cc)
  two_sides true true y z (inr h) e = absurd (let g : true ≡ false = h.0 in cc)
  two_sides true false y z h e = omega (arith, ints)
  two_sides false true y z h e = omega (arith, ints)
  two_sides false false y z (inl h) e = absurd (let g : false ≡ true = h.0 in cc)
  two_sides false false y z (inr h) e = absurd (let g : false ≡ true = h.1 in cc)

  -- What all elements carry behind element k is what it carries itself.
  alone : (f : ℕ → ℤ) → k < length q.elements
      → sum_int (length q.elements) (λ e. carried (behind q k (length q.elements) (start q e)) (behind q k (length q.elements) (stop q e)) (f e))
      ≡ carried (behind q k (length q.elements) (start q k)) (behind q k (length q.elements) (stop q k)) (f k)
  alone f within =
      let m : ℕ = length q.elements in
      let here : ℕ → Bool = behind q k m in
      int_one m k (λ e. carried (here (start q e)) (here (stop q e)) (f e)) within
      (λ e h other. one_side (here (start q e)) (here (stop q e)) (f e)
      (elim ((joined e (element q e) (grown e h)).ends) [
        | inl g ↦ ap here g.0 ∙ level m e (omega arith) h other ∙ sym (ap here g.1)
        | inr g ↦ ap here g.0 ∙ sym (level m e (omega arith) h other) ∙ sym (ap here g.1)
      ]))

  same_through : (f g : ℕ → ℤ) → k < length q.elements
      → ((inside : ℕ → Bool) → sum_int (length q.elements) (λ e. carried (inside (start q e)) (inside (stop q e)) (f e)) ≡ sum_int (length q.elements) (λ e. carried (inside (start q e)) (inside (stop q e)) (g e)))
      → f k ≡ g k
  same_through f g within even =
      let m : ℕ = length q.elements in
      let here : ℕ → Bool = behind q k m in
      let p : (here (k + 1) ≡ true) × (here (anchor k (element q k)) ≡ false) = parted m (omega arith) within in
      two_sides (here (start q k)) (here (stop q k)) (f k) (g k)
      (elim ((joined k (element q k) (grown k within)).ends) [
        | inl j ↦ inl (ap here j.0 ∙ p.0, ap here j.1 ∙ p.1)
        | inr j ↦ inr (ap here j.0 ∙ p.1, ap here j.1 ∙ p.0)
      ])
      (sym (alone f within) ∙ even here ∙ alone g within)

-- What balances with the lines' quantities is the loads.
pub balanced_are_loads : (q : Question) (schedule : List ℕ) (f : ℕ → ℤ) → HasLines q → AllBring q → ((inside : ℕ → Bool) → by_parts q inside f (λ i. pos (quantity schedule i)) ≡ pos 0)
    → (e : ℕ) → e < length q.elements → load q schedule e ≡ f e
balanced_are_loads q x f lines grown balance e within =
    same_through q e grown (load q x) f within
    (λ inside. even (sum_int (length q.elements) (λ k. carried (inside (start q k)) (inside (stop q k)) (load q x k))) (sum_int (length q.elements) (λ k. carried (inside (start q k)) (inside (stop q k)) (f k))) (sum_int (length q.lines) (λ i. carried (inside (end_node (line q i).dest)) (inside (end_node (line q i).origin)) (pos (quantity x i)))) (loads_balance q x inside lines) (balance inside))
  where
    even : (a b c : ℤ) → a +ℤ c ≡ pos 0 → b +ℤ c ≡ pos 0 → a ≡ b
    even a b c h k = omega (arith, ints)
