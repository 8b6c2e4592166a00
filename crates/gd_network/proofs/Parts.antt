-- A network's sums are those over the elements and over the lines.
use Rattle.std.proofs.Common.{◌≡◌, ℕ, suc, zero, ◌<◌, ◌≤◌, List, length, refl, ap, ◌∙◌, arith, Bool, true, false}
use Rattle.std.specs.Prelude.{ℤ, pos, ◌+ℤ◌}
use borrow.Author.Differences.{ints}
use Rattle.gd_scale.specs.Sum.{sum_int}
use Rattle.gd_scale.specs.Sizes.{whole}
use Rattle.gd_scale.proofs.Words.{whole_lawful}
use Rattle.gd_rules.specs.Question.{Line, Question, element, line}
use Rattle.gd_network.specs.Arcs.{Net, from_at, to_at, lower_at, upper_at, most_of, most_part, least_part, tenth_arc}
use Rattle.gd_question.specs.Nodes.{start, stop, end_node, carried}
use Rattle.gd_schedule.proofs.Balance.{by_parts}
use Rattle.gd_network.proofs.Wiring.{IsWired}
use Rattle.gd_network.specs.Flow.{flow_at, net, bound_of, arc_excess}
use Rattle.gd_network.proofs.Sums.{total_parts}
use Rattle.gd_scale.proofs.IntSums.{int_same, all_pos}
use Rattle.gd_network.proofs.Tens.{most_ten, least_ten}

carried_more : (b c : Bool) (x y : ℤ) → carried b c x +ℤ carried b c y ≡ carried b c (x +ℤ y)
carried_more true true x y = omega (arith, ints)
carried_more true false x y = omega (arith, ints)
carried_more false true x y = omega (arith, ints)
carried_more false false x y = omega (arith, ints)

carried_none : (b c : Bool) → pos 0 ≡ carried b c (pos 0)
carried_none true true = refl
carried_none true false = refl
carried_none false true = refl
carried_none false false = refl

-- arcs between two nodes carry together what their flows add up to
pub carried_sum : (b c : Bool) (n : ℕ) (f : ℕ → ℤ) → sum_int n (λ j. carried b c (f j)) ≡ carried b c (sum_int n f)
carried_sum b c zero f = carried_none b c
carried_sum b c (suc n) f = ap (λ w. w +ℤ carried b c (f n)) (carried_sum b c n f) ∙ carried_more b c (sum_int n f) (f n)

bound_more : (b c : Bool) (x y u v : ℤ) → bound_of b c x y +ℤ bound_of b c u v ≡ bound_of b c (x +ℤ u) (y +ℤ v)
bound_more true true x y u v = refl
bound_more true false x y u v = omega (arith, ints)
bound_more false true x y u v = refl
bound_more false false x y u v = refl

bound_none : (b c : Bool) → pos 0 ≡ bound_of b c (pos 0) (pos 0)
bound_none true true = refl
bound_none true false = refl
bound_none false true = refl
bound_none false false = refl

pub bound_sum : (b c : Bool) (n : ℕ) (f g : ℕ → ℤ) → sum_int n (λ j. bound_of b c (f j) (g j)) ≡ bound_of b c (sum_int n f) (sum_int n g)
bound_sum b c zero f g = bound_none b c
bound_sum b c (suc n) f g = ap (λ w. w +ℤ bound_of b c (f n) (g n)) (bound_sum b c n f g) ∙ bound_more b c (sum_int n f) (sum_int n g) (f n) (g n)

module _ (q : Question) (n : Net) (w : IsWired q n) (inside : ℕ → Bool) where
  pub net_parts : (flow : List ℤ) → net inside n flow ≡ by_parts q inside (λ e. flow_at flow e) (λ i. sum_int 10 (λ j. flow_at flow (tenth_arc q i j)))
  net_parts flow =
      let at : ℕ → ℤ = λ a. carried (inside (from_at n a)) (inside (to_at n a)) (flow_at flow a) in
      ap (λ k. sum_int k at) w.size
      ∙ total_parts whole whole_lawful (length q.elements) (length q.lines) at
      ∙ ap (λ z. z +ℤ sum_int (length q.lines) (λ i. sum_int 10 (λ j. at (tenth_arc q i j))))
      (int_same (length q.elements) at (λ e. carried (inside (start q e)) (inside (stop q e)) (flow_at flow e))
      (λ e h. ap (λ v. carried (inside v) (inside (to_at n e)) (flow_at flow e)) (w.from e h) ∙ ap (λ v. carried (inside (start q e)) (inside v) (flow_at flow e)) (w.to e h)))
      ∙ ap (λ z. sum_int (length q.elements) (λ e. carried (inside (start q e)) (inside (stop q e)) (flow_at flow e)) +ℤ z)
      (int_same (length q.lines) (λ i. sum_int 10 (λ j. at (tenth_arc q i j))) (λ i. carried (inside (end_node (line q i).dest)) (inside (end_node (line q i).origin)) (sum_int 10 (λ j. flow_at flow (tenth_arc q i j))))
      (λ i h. int_same 10 (λ j. at (tenth_arc q i j)) (λ j. carried (inside (end_node (line q i).dest)) (inside (end_node (line q i).origin)) (flow_at flow (tenth_arc q i j)))
      (λ j k. ap (λ v. carried (inside v) (inside (to_at n (tenth_arc q i j))) (flow_at flow (tenth_arc q i j))) (w.line_from i j h k) ∙ ap (λ v. carried (inside (end_node (line q i).dest)) (inside v) (flow_at flow (tenth_arc q i j))) (w.line_to i j h k))
      ∙ carried_sum (inside (end_node (line q i).dest)) (inside (end_node (line q i).origin)) 10 (λ j. flow_at flow (tenth_arc q i j))))

  bounds_are : (b b2 c c2 : Bool) (x x2 y y2 : ℤ) → b ≡ b2 → c ≡ c2 → x ≡ x2 → y ≡ y2 → bound_of b c x y ≡ bound_of b2 c2 x2 y2
  bounds_are b b2 c c2 x x2 y y2 e f g h = ap (λ z. bound_of z c x y) e ∙ ap (λ z. bound_of b2 z x y) f ∙ ap (λ z. bound_of b2 c2 z y) g ∙ ap (bound_of b2 c2 x2) h

  -- an arc excess for each element, and for each line one with its floor and its ceiling
  pub excess_parts : ((i : ℕ) → i < length q.lines → (line q i).floor ≤ (line q i).ceiling) → arc_excess inside n
      ≡ sum_int (length q.elements) (λ e. bound_of (inside (start q e)) (inside (stop q e)) (pos 0) (pos (most_of (element q e))))
      +ℤ sum_int (length q.lines) (λ i. bound_of (inside (end_node (line q i).dest)) (inside (end_node (line q i).origin)) (pos (line q i).floor) (pos (line q i).ceiling))
  excess_parts bounds =
      let at : ℕ → ℤ = λ a. bound_of (inside (from_at n a)) (inside (to_at n a)) (lower_at n a) (upper_at n a) in
      ap (λ k. sum_int k at) w.size
      ∙ total_parts whole whole_lawful (length q.elements) (length q.lines) at
      ∙ ap (λ z. z +ℤ sum_int (length q.lines) (λ i. sum_int 10 (λ j. at (tenth_arc q i j))))
      (int_same (length q.elements) at (λ e. bound_of (inside (start q e)) (inside (stop q e)) (pos 0) (pos (most_of (element q e))))
      (λ e h. bounds_are (inside (from_at n e)) (inside (start q e)) (inside (to_at n e)) (inside (stop q e)) (lower_at n e) (pos 0) (upper_at n e) (pos (most_of (element q e))) (ap inside (w.from e h)) (ap inside (w.to e h)) (w.least e h) (w.most e h)))
      ∙ ap (λ z. sum_int (length q.elements) (λ e. bound_of (inside (start q e)) (inside (stop q e)) (pos 0) (pos (most_of (element q e)))) +ℤ z)
      (int_same (length q.lines) (λ i. sum_int 10 (λ j. at (tenth_arc q i j))) (λ i. bound_of (inside (end_node (line q i).dest)) (inside (end_node (line q i).origin)) (pos (line q i).floor) (pos (line q i).ceiling))
      (λ i h.
      let k : Line = line q i in
      let d : Bool = inside (end_node k.dest) in
      let o : Bool = inside (end_node k.origin) in
      int_same 10 (λ j. at (tenth_arc q i j)) (λ j. bound_of d o (pos (least_part k.ceiling k.floor j)) (pos (most_part k.ceiling j)))
      (λ j m. bounds_are (inside (from_at n (tenth_arc q i j))) d (inside (to_at n (tenth_arc q i j))) o (lower_at n (tenth_arc q i j)) (pos (least_part k.ceiling k.floor j)) (upper_at n (tenth_arc q i j)) (pos (most_part k.ceiling j)) (ap inside (w.line_from i j h m)) (ap inside (w.line_to i j h m)) (w.line_least i j h m) (w.line_most i j h m))
      ∙ bound_sum d o 10 (λ j. pos (least_part k.ceiling k.floor j)) (λ j. pos (most_part k.ceiling j))
      ∙ ap (λ x. bound_of d o x (sum_int 10 (λ j. pos (most_part k.ceiling j)))) (all_pos 10 (λ j. least_part k.ceiling k.floor j) ∙ ap pos (least_ten k.ceiling k.floor (bounds i h)))
      ∙ ap (bound_of d o (pos k.floor)) (all_pos 10 (λ j. most_part k.ceiling j) ∙ ap pos (most_ten k.ceiling))))
