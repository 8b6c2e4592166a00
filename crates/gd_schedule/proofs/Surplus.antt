-- Surpluses that lines make, and that elements carry on.
use Rattle.std.proofs.Common.{◌≡◌, ◌≢◌, ℕ, ◌+◌, ◌*◌, ◌<◌, ◌≤◌, List, length, get_or, set, replicate, refl, sym, ap, ◌∙◌, subst, arith, add-one, Bool, true, false, inl, inr, zero, suc}
use Rattle.std.specs.Prelude.{ℤ, pos, negsuc, neg_ℤ, ◌+ℤ◌, unsigned_abs, if◌then◌else◌, ◌==◌, ◌⊎◌}
use Rattle.std.proofs.lemmas.Bool.{eq-eqb, eqb-true}
use Rattle.std.proofs.lemmas.List.{length-set, length-replicate, get_or-replicate, get_or-set_same, get_or-set_other}
use borrow.Author.Differences.{ints, up, down}
use Rattle.gd_scale.specs.Sum.{sum_int}
use Rattle.gd_rules.specs.Question.{Line, Question, element, line}
use Rattle.gd_rules.specs.Schedule.{quantity}
use Rattle.gd_rules.specs.Tree.{HasLines}
use Rattle.gd_scale.proofs.IntSums.{int_zero, int_changed, nat_raised, nat_term}
use Rattle.gd_question.specs.Nodes.{AllBring, start, stop, end_node, anchor, inside_part, carried}
use Rattle.gd_schedule.specs.Sizes.{IsSized}
use Rattle.gd_schedule.specs.Surplus.{surplus_inside, net_supply, through, size, IsSurplus, IsPassedOn}
use Rattle.gd_schedule.specs.Table.{IsTable}
use Rattle.gd_schedule.proofs.Balance.{balanced_are_loads, joined}

-- nothing carried brings nothing into any set
carried_none : (b c : Bool) → carried b c (pos 0) ≡ pos 0
carried_none true true = refl
carried_none true false = refl
carried_none false true = refl
carried_none false false = refl

-- one entry is raised by an amount
abbrev pub IsAdded : List ℤ → List ℤ → ℕ → ℤ → Type 0
IsAdded s t at a = (e : ℕ) → get_or t e (pos 0) ≡ get_or s e (pos 0) +ℤ (if at == e then a else pos 0)

-- the same of equal entries and amounts
pub added_as : (s t : List ℤ) (at to : ℕ) (a b : ℤ) → at ≡ to → a ≡ b → IsAdded s t at a → IsAdded s t to b
added_as s t at to a b e f h = subst (λ k. IsAdded s t k b) e (subst (λ z. IsAdded s t at z) f h)

added_here : (s t : List ℤ) (at : ℕ) (a : ℤ) → IsAdded s t at a → get_or t at (pos 0) ≡ get_or s at (pos 0) +ℤ a
added_here s t at a h = h at ∙ ap (λ b. get_or s at (pos 0) +ℤ (if b then a else pos 0)) (eq-eqb at at refl)

nothing_more : (x : ℤ) → x +ℤ pos 0 ≡ x
nothing_more x = omega (arith, ints)

added_other : (s t : List ℤ) (at : ℕ) (a : ℤ) → IsAdded s t at a → (e : ℕ) → e ≢ at → get_or t e (pos 0) ≡ get_or s e (pos 0)
added_other s t at a h e other = by_test (at == e) refl
  where
    by_test : (b : Bool) → (at == e) ≡ b → get_or t e (pos 0) ≡ get_or s e (pos 0)
    by_test true same = absurd (other (sym (eqb-true at e same)))
    by_test false same = h e ∙ ap (λ b. get_or s e (pos 0) +ℤ (if b then a else pos 0)) same ∙ nothing_more (get_or s e (pos 0))

part_more : (b : Bool) (x y : ℤ) → inside_part b (x +ℤ y) ≡ inside_part b x +ℤ inside_part b y
part_more true x y = refl
part_more false x y = refl

part_none : (b : Bool) → inside_part b (pos 0) ≡ pos 0
part_none true = refl
part_none false = refl

inside_added : (inside : ℕ → Bool) (n at : ℕ) (s t : List ℤ) (a : ℤ) → at < n → IsAdded s t at a → surplus_inside inside n t ≡ surplus_inside inside n s +ℤ inside_part (inside at) a
inside_added inside n at s t a h added =
    let f : ℕ → ℤ = λ v. inside_part (inside v) (get_or s v (pos 0)) in
    let g : ℕ → ℤ = λ v. inside_part (inside v) (get_or t v (pos 0)) in
    let changed : sum_int n g +ℤ f at ≡ sum_int n f +ℤ g at = int_changed n at f g h (λ v k other. ap (inside_part (inside v)) (added_other s t at a added v other)) in
    let more : g at ≡ f at +ℤ inside_part (inside at) a = ap (inside_part (inside at)) (added_here s t at a added) ∙ part_more (inside at) (get_or s at (pos 0)) a in
    omega (arith, ints)

abs_sum : (x y : ℤ) → unsigned_abs (x +ℤ y) ≤ unsigned_abs x + unsigned_abs y
abs_sum x y = omega (arith, ints, abs_parts (x +ℤ y), abs_parts x, abs_parts y)
  where
    abs_parts : (z : ℤ) → unsigned_abs z ≡ up z + down z
    abs_parts (pos n) = omega arith
    abs_parts (negsuc n) = omega arith

pub size_added : (n at : ℕ) (s t : List ℤ) (a : ℤ) → at < n → IsAdded s t at a → size n t ≤ size n s + unsigned_abs a
size_added n at s t a h added =
    nat_raised n at (λ v. unsigned_abs (get_or s v (pos 0))) (λ v. unsigned_abs (get_or t v (pos 0))) (unsigned_abs a) h
    (λ v k other. ap unsigned_abs (added_other s t at a added v other))
    (subst (λ z. unsigned_abs z ≤ unsigned_abs (get_or s at (pos 0)) + unsigned_abs a) (sym (added_here s t at a added)) (abs_sum (get_or s at (pos 0)) a))

abs_sized : (b : ℕ) (x : ℤ) → unsigned_abs x ≤ b → IsSized b x
abs_sized b (pos n) h = record { low = omega (arith, ints); high = omega (arith, ints) }
abs_sized b (negsuc n) h = record { low = omega (arith, ints); high = omega (arith, ints) }

-- No entry is larger than all are together.
pub entry_sized : (n at b : ℕ) (s : List ℤ) → at < n → size n s ≤ b → IsSized b (get_or s at (pos 0))
entry_sized n at b s h k = abs_sized b (get_or s at (pos 0)) (let p : unsigned_abs (get_or s at (pos 0)) ≤ size n s = nat_term n at (λ v. unsigned_abs (get_or s v (pos 0))) h in omega arith)

-- Without lines there is none.
pub no_surplus : (q : Question) (x : List ℕ) (n : ℕ) → n ≡ length q.elements + 1 → IsSurplus q x 0 (replicate n (pos 0))
no_surplus q x n e = record {
  sized = length-replicate n (pos 0) ∙ e;
  holds = λ inside. int_zero (length q.elements + 1) (λ v. inside_part (inside v) (get_or (replicate n (pos 0)) v (pos 0))) (λ v h. ap (inside_part (inside v)) (get_or-replicate n v (pos 0) (pos 0) (subst (λ k. v < k) (sym e) h)) ∙ part_none (inside v));
  small = (let p : size (length q.elements + 1) (replicate n (pos 0)) ≡ 0 = none (length q.elements + 1) (omega arith) in omega arith);
}
  where
    none : (m : ℕ) → m ≤ n → size m (replicate n (pos 0)) ≡ 0
    none zero h = refl
    none (suc m) h =
        let a : size m (replicate n (pos 0)) ≡ 0 = none m (omega arith) in
        let b : unsigned_abs (get_or (replicate n (pos 0)) m (pos 0)) ≡ 0 = ap unsigned_abs (get_or-replicate n m (pos 0) (pos 0) (omega arith)) in
        omega arith

line_carries : (o d : Bool) (m : ℕ) (h s t u : ℤ) → s ≡ h +ℤ inside_part o (pos m) → t ≡ s +ℤ inside_part d (neg_ℤ (pos m)) → u ≡ h +ℤ carried d o (pos m) → t ≡ u
line_carries true true m h s t u e f g = omega (arith, ints)
line_carries true false m h s t u e f g = omega (arith, ints)
line_carries false true m h s t u e f g = omega (arith, ints)
line_carries false false m h s t u e f g = omega (arith, ints)

pub abs_less : (m : ℕ) → unsigned_abs (neg_ℤ (pos m)) ≡ m
abs_less zero = refl
abs_less (suc m) = refl

-- One line more: its quantity at the origin's node, and less it at the destination's.
pub line_adds : (q : Question) (x : List ℕ) (k : ℕ) (s t u : List ℤ) → HasLines q → k < length q.lines → quantity x k ≤ 1000000000
    → length t ≡ length s → IsAdded s t (end_node (line q k).origin) (pos (quantity x k))
    → length u ≡ length t → IsAdded t u (end_node (line q k).dest) (neg_ℤ (pos (quantity x k)))
    → IsSurplus q x k s → IsSurplus q x (k + 1) u
line_adds q x k s t u lines known few long one longer two before = record {
  sized = longer ∙ long ∙ before.sized;
  holds = λ inside.
      let o : Bool = inside (end_node l.origin) in
      let d : Bool = inside (end_node l.dest) in
      line_carries o d m (net_supply q x inside k) (surplus_inside inside n t) (surplus_inside inside n u) (net_supply q x inside (k + 1))
      (inside_added inside n (end_node l.origin) s t (pos m) origin one ∙ ap (λ w. w +ℤ inside_part o (pos m)) (before.holds inside))
      (inside_added inside n (end_node l.dest) t u (neg_ℤ (pos m)) dest two)
      (ap (net_supply q x inside) (add-one k));
  small =
      (let a : size n t ≤ size n s + m = size_added n (end_node l.origin) s t (pos m) origin one in
      let b : size n u ≤ size n t + m = subst (λ z. size n u ≤ size n t + z) (abs_less m) (size_added n (end_node l.dest) t u (neg_ℤ (pos m)) dest two) in
      let c : size n s ≤ k * 2000000000 = before.small in
      omega (arith, few));
}
  where
    l : Line
    l = line q k

    m : ℕ
    m = quantity x k

    n : ℕ
    n = length q.elements + 1

    origin : end_node l.origin < n
    origin = let h = (lines k known).origin_known in omega (arith, h)

    dest : end_node l.dest < n
    dest = let h = (lines k known).dest_known in omega (arith, h)

-- The surplus of all lines, before any of it is carried on.
pub none_passed : (q : Question) (x : List ℕ) (s : List ℤ) (n : ℕ) → n ≡ length q.elements → IsSurplus q x (length q.lines) s → IsPassedOn q x (length q.elements) s (replicate n (pos 0))
none_passed q x s n e h = record {
  sized = h.sized;
  long = length-replicate n (pos 0) ∙ e;
  holds = λ inside.
      let p : through q inside (replicate n (pos 0)) ≡ pos 0 =
      int_zero (length q.elements) (λ e. carried (inside (start q e)) (inside (stop q e)) (get_or (replicate n (pos 0)) e (pos 0)))
      (λ i k. ap (carried (inside (start q i)) (inside (stop q i))) (nothing i k) ∙ carried_none (inside (start q i)) (inside (stop q i))) in
      h.holds inside ∙ sym (nothing_more (net_supply q x inside (length q.lines))) ∙ ap (λ w. net_supply q x inside (length q.lines) +ℤ w) (sym p);
  left = nothing;
  small = h.small;
}
  where
    nothing : (i : ℕ) → i < length q.elements → get_or (replicate n (pos 0)) i (pos 0) ≡ pos 0
    nothing i k = get_or-replicate n i (pos 0) (pos 0) (subst (λ m. i < m) (sym e) k)

-- What an element carries to the node that it brings, or from there.
abbrev pub IsCarriedBy : Question → ℕ → ℤ → ℤ → Type 0
IsCarriedBy q e a z =
    ((start q e ≡ e + 1) × (stop q e ≡ anchor e (element q e)) × (z ≡ a))
    ⊎ ((start q e ≡ anchor e (element q e)) × (stop q e ≡ e + 1) × (z ≡ neg_ℤ a))

moved_in : (b c : Bool) (a : ℤ) → inside_part c a ≡ inside_part b a +ℤ carried b c a
moved_in true true a = omega (arith, ints)
moved_in true false a = omega (arith, ints)
moved_in false true a = omega (arith, ints)
moved_in false false a = omega (arith, ints)

moved_out : (b c : Bool) (a : ℤ) → inside_part c a ≡ inside_part b a +ℤ carried c b (neg_ℤ a)
moved_out true true a = omega (arith, ints)
moved_out true false a = omega (arith, ints)
moved_out false true a = omega (arith, ints)
moved_out false false a = omega (arith, ints)

-- One element more carries the surplus of the node that it brings to the earlier one.
pub passed_on : (q : Question) (x : List ℕ) (e : ℕ) (s t table : List ℤ) (z : ℤ) → AllBring q → e < length q.elements
    → length t ≡ length s → IsAdded s t (anchor e (element q e)) (get_or s (e + 1) (pos 0)) → IsCarriedBy q e (get_or s (e + 1) (pos 0)) z
    → IsPassedOn q x (e + 1) s table → IsPassedOn q x e t (set table e z)
passed_on q x e s t table z grown known long added ends before = record {
  sized = long ∙ before.sized;
  long = length-set table e z ∙ before.long;
  holds = λ inside.
      let here : Bool = inside (e + 1) in
      let there : Bool = inside (anchor e (element q e)) in
      let f : ℕ → ℤ = λ i. carried (inside (start q i)) (inside (stop q i)) (get_or table i (pos 0)) in
      let g : ℕ → ℤ = λ i. carried (inside (start q i)) (inside (stop q i)) (get_or (set table e z) i (pos 0)) in
      let more : through q inside (set table e z) +ℤ f e ≡ through q inside table +ℤ g e =
      int_changed (length q.elements) e f g known (λ i h other. ap (carried (inside (start q i)) (inside (stop q i))) (get_or-set_other table e i z (pos 0) other)) in
      let none : f e ≡ pos 0 = ap (carried (inside (start q e)) (inside (stop q e))) (before.left e (omega arith)) ∙ carried_none (inside (start q e)) (inside (stop q e)) in
      let own : g e ≡ carried (inside (start q e)) (inside (stop q e)) z = ap (carried (inside (start q e)) (inside (stop q e))) (get_or-set_same table e z (pos 0) (subst (λ n. e < n) (sym before.long) known)) in
      let moved : inside_part there a ≡ inside_part here a +ℤ carried (inside (start q e)) (inside (stop q e)) z =
      elim ends [
        | inl h ↦ moved_in here there a ∙ ap (λ w. inside_part here a +ℤ w) (sym (ap (λ v. carried (inside v) (inside (stop q e)) z) h.0 ∙ ap (λ v. carried here (inside v) z) h.1 ∙ ap (carried here there) h.2))
        | inr h ↦ moved_out here there a ∙ ap (λ w. inside_part here a +ℤ w) (sym (ap (λ v. carried (inside v) (inside (stop q e)) z) h.0 ∙ ap (λ v. carried there (inside v) z) h.1 ∙ ap (carried there here) h.2))
      ] in
      let all : surplus_inside inside (e + 1) s +ℤ inside_part here a ≡ net_supply q x inside (length q.lines) +ℤ through q inside table = sym (ap (λ n. surplus_inside inside n s) (add-one (e + 1))) ∙ before.holds inside in
      let rest : surplus_inside inside (e + 1) t ≡ surplus_inside inside (e + 1) s +ℤ inside_part there a = inside_added inside (e + 1) (anchor e (element q e)) s t a earlier added in
      together (surplus_inside inside (e + 1) t) (surplus_inside inside (e + 1) s) (inside_part here a) (inside_part there a) (net_supply q x inside (length q.lines)) (through q inside table) (through q inside (set table e z)) (f e) (g e) (carried (inside (start q e)) (inside (stop q e)) z) rest all moved more none own;
  left = λ i h. get_or-set_other table e i z (pos 0) (λ same. absurd (omega arith)) ∙ before.left i (omega arith);
  small =
      (let p : size (e + 1) t ≤ size (e + 1) s + unsigned_abs a = size_added (e + 1) (anchor e (element q e)) s t a earlier added in
      let r : size (e + 1) s + unsigned_abs a ≤ length q.lines * 2000000000 = subst (λ n. n ≤ length q.lines * 2000000000) (ap (λ n. size n s) (add-one (e + 1))) before.small in
      omega arith);
}
  where
    a : ℤ
    a = get_or s (e + 1) (pos 0)

    earlier : anchor e (element q e) < e + 1
    earlier = let h : anchor e (element q e) ≤ e = (joined e (element q e) (grown e known)).earlier in omega arith

    together : (ht hs ih it b th tn fe ge c : ℤ) → ht ≡ hs +ℤ it → hs +ℤ ih ≡ b +ℤ th → it ≡ ih +ℤ c → tn +ℤ fe ≡ th +ℤ ge → fe ≡ pos 0 → ge ≡ c → ht ≡ b +ℤ tn
    together ht hs ih it b th tn fe ge c h k m n o p = omega (arith, ints)

-- When all have, the table tells the loads.
pub all_passed : (q : Question) (x : List ℕ) (s table : List ℤ) → HasLines q → AllBring q → IsPassedOn q x 0 s table → IsTable q x table
all_passed q x s table lines grown h = record {
  sized = h.long;
  is = λ e k. sym (balanced_are_loads q x (λ i. get_or table i (pos 0)) lines grown
      (λ inside.
      let p : pos 0 +ℤ inside_part (inside 0) (get_or s 0 (pos 0)) ≡ net_supply q x inside (length q.lines) +ℤ through q inside table = h.holds inside in
      let r : inside_part (inside 0) (get_or s 0 (pos 0)) ≡ pos 0 = ap (inside_part (inside 0)) nothing ∙ part_none (inside 0) in
      turned (net_supply q x inside (length q.lines)) (through q inside table) (inside_part (inside 0) (get_or s 0 (pos 0))) p r) e k);
}
  where
    turned : (b t i : ℤ) → pos 0 +ℤ i ≡ b +ℤ t → i ≡ pos 0 → t +ℤ b ≡ pos 0
    turned b t i e f = omega (arith, ints)

    everywhere : (z : ℤ) → carried true true z ≡ pos 0
    everywhere z = omega (arith, ints)

    -- nothing is carried into the set of all nodes
    nothing : get_or s 0 (pos 0) ≡ pos 0
    nothing =
        let p : pos 0 +ℤ get_or s 0 (pos 0) ≡ net_supply q x (λ _. true) (length q.lines) +ℤ through q (λ _. true) table = h.holds (λ _. true) in
        let b : net_supply q x (λ _. true) (length q.lines) ≡ pos 0 = int_zero (length q.lines) (λ i. carried true true (pos (quantity x i))) (λ i k. everywhere (pos (quantity x i))) in
        let t : through q (λ _. true) table ≡ pos 0 = int_zero (length q.elements) (λ e. carried true true (get_or table e (pos 0))) (λ e k. everywhere (get_or table e (pos 0))) in
        omega (arith, ints)
