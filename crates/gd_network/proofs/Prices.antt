-- Potentials under which nothing is left to gain give the prices that show a schedule best.
use Rattle.std.proofs.Common.{◌≡◌, ℕ, suc, zero, ◌+◌, ◌-◌, ◌<◌, ◌≤◌, List, length, sym, ap, ◌∙◌, subst, arith, inl, inr, min, max, add-one}
use Rattle.std.specs.Prelude.{ℤ, pos, ◌+ℤ◌, ◌≤ℤ◌, ◌<ℤ◌, ◌⊎◌}
use Rattle.std.proofs.lemmas.Bool.{cases_lt, cases_eq}
use Rattle.std.proofs.lemmas.Int.{by_lt_z}
use borrow.Author.Differences.{ints}
use Rattle.gd_scale.specs.Sum.{sum_int}
use Rattle.gd_scale.specs.Scale.{Scale, multiple, AtMost, IsAbove}
use Rattle.gd_scale.specs.Laws.{IsLawful, less}
use Rattle.gd_rules.specs.Units.{NeverRises}
use Rattle.gd_rules.specs.Question.{Element, Line, Question, element, line, crossing}
use Rattle.gd_rules.specs.Question.Element.{Segment, Receipt, Delivery, Pool}
use Rattle.gd_rules.specs.Schedule.{quantity, load}
use Rattle.gd_rules.specs.Spread.{tenth_end, tenth_of}
use Rattle.gd_rules.specs.Priced.{price, crossed, worth_of, margin, Clears, IsPriced}
use Rattle.gd_rules.specs.Tree.{HasLines}
use Rattle.gd_scale.proofs.Group.{injective, minus_none, at_most_itself, at_most_left, at_most_plus, at_most_then, at_most_back}
use Rattle.gd_scale.proofs.Sums.{total_same}
use Rattle.gd_rules.proofs.LiesIn.{lies_in}
use Rattle.gd_network.specs.Arcs.{Net, from_at, tenth_arc, most_of, most_part, least_part}
use Rattle.gd_question.specs.Nodes.{AllBring, start, stop, end_node}
use Rattle.gd_network.proofs.Wiring.{IsWired}
use Rattle.gd_network.specs.Flow.{flow_at, IsCirculation, IsWithin, IsScheduleOf}
use Rattle.gd_network.specs.Potential.{IsGains, IsStill, ArePrices}
use Rattle.gd_scale.proofs.IntSums.{int_at_most, all_pos}
use Rattle.gd_network.proofs.Tens.{most_sum, ends_grow, first_end, last_end}
use Rattle.gd_schedule.proofs.Telescope.{less_back, less_chain, less_turned, line_rise}
use Rattle.gd_network.proofs.Balance.{loads_are}
use Rattle.gd_network.proofs.Allowed.{tenth_in, element_in}

-- one of the first n numbers is a P, or all are Qs
seek : (P Q : ℕ → Type 0) (n : ℕ) → ((k : ℕ) → P k ⊎ Q k) → ((k : ℕ) × (k < n) × P k) ⊎ ((k : ℕ) → k < n → Q k)
seek P Q zero each = inr (λ k h. absurd (omega arith))
seek P Q (suc n) each = elim (seek P Q n each) [
  | inl f ↦ inl (f.0, omega (arith, f.1), f.2)
  | inr f ↦ elim (each n) [
    | inl g ↦ inl (n, omega arith, g)
    | inr g ↦ inr (λ k h. elim (cases_lt k n) [ inl m ↦ f k m | inr m ↦ subst Q (omega (arith, h, m)) g ])
  ]
]

-- the sum of the first ones of what is not below zero
int_prefix : (n m : ℕ) (f : ℕ → ℤ) → n ≤ m → ((k : ℕ) → k < m → pos 0 ≤ℤ f k) → sum_int n f ≤ℤ sum_int m f
int_prefix n zero f h up = let e : n ≡ 0 = omega arith in rw e (omega (arith, ints))
int_prefix n (suc m) f h up = elim (cases_eq n (suc m)) [
  | inl e ↦ rw e (omega (arith, ints))
  | inr e ↦ let a : sum_int n f ≤ℤ sum_int m f = int_prefix n m f (omega arith) (λ k j. up k (omega arith)) in let b : pos 0 ≤ℤ f m = up m (omega arith) in omega (arith, ints)
]

-- Some arc up to the tenth that ends above what the ten carry has room.
pub room_below : (ceiling x j : ℕ) (f : ℕ → ℤ) → ((k : ℕ) → k < 10 → pos 0 ≤ℤ f k) → pos x ≡ sum_int 10 f → j ≤ 10 → x < tenth_end ceiling j → (k : ℕ) × (k < j) × (f k <ℤ pos (most_part ceiling k))
room_below ceiling x j f up sum h below = elim (seek (λ k. f k <ℤ pos (most_part ceiling k)) (λ k. pos (most_part ceiling k) ≤ℤ f k) j (λ k. by_lt_z (f k) (pos (most_part ceiling k)) (λ g. inl g) (λ g. inr g))) [
  | inl g ↦ g
  | inr g ↦
      let a : sum_int j (λ k. pos (most_part ceiling k)) ≤ℤ sum_int j f = int_at_most j (λ k. pos (most_part ceiling k)) f g in
      let b : sum_int j (λ k. pos (most_part ceiling k)) ≡ pos (tenth_end ceiling j) = all_pos j (λ k. most_part ceiling k) ∙ ap pos (most_sum ceiling j) in
      let c : sum_int j f ≤ℤ sum_int 10 f = int_prefix j 10 f h up in
      absurd (full x (tenth_end ceiling j) (sum_int j (λ k. pos (most_part ceiling k))) (sum_int j f) (sum_int 10 f) a b c sum below)
]
  where
    full : (x e : ℕ) (a b c : ℤ) → a ≤ℤ b → a ≡ pos e → b ≤ℤ c → pos x ≡ c → x < e → ⊥
    full x e a b c p q r t u = omega (arith, ints)

module _ (ceiling floor m : ℕ) (f : ℕ → ℤ) (most : (k : ℕ) → k < 10 → f k ≤ℤ pos (most_part ceiling k)) (least : (k : ℕ) → k < 10 → m ≤ k → f k ≤ℤ pos (least_part ceiling floor k)) where
  early_step : (b0 b1 bm fl : ℕ) (s g : ℤ) → b0 ≤ b1 → b1 ≤ bm → s ≤ℤ pos (max (min b0 bm) (min fl b0)) → g ≤ℤ pos (b1 - b0) → (s +ℤ g) ≤ℤ pos (max (min b1 bm) (min fl b1))
  early_step b0 b1 bm fl s g h k p q = omega (arith, ints)

  late_step : (b0 b1 bm fl : ℕ) (s g : ℤ) → b0 ≤ b1 → bm ≤ b0 → s ≤ℤ pos (max (min b0 bm) (min fl b0)) → g ≤ℤ pos (min (max fl b0) b1 - b0) → (s +ℤ g) ≤ℤ pos (max (min b1 bm) (min fl b1))
  late_step b0 b1 bm fl s g h k p q = omega (arith, ints)

  -- what the first n carry where those from m on carry no more than their lower bounds
  low_sum : (n : ℕ) → n ≤ 10 → sum_int n f ≤ℤ pos (max (min (tenth_end ceiling n) (tenth_end ceiling m)) (min floor (tenth_end ceiling n)))
  low_sum zero h = omega (arith, ints)
  low_sum (suc n) h =
      let r : sum_int n f ≤ℤ pos (max (min (tenth_end ceiling n) (tenth_end ceiling m)) (min floor (tenth_end ceiling n))) = low_sum n (omega arith) in
      let g : tenth_end ceiling n ≤ tenth_end ceiling (n + 1) = ends_grow ceiling n (n + 1) (omega arith) in
      subst (λ k. (sum_int n f +ℤ f n) ≤ℤ pos (max (min (tenth_end ceiling k) (tenth_end ceiling m)) (min floor (tenth_end ceiling k)))) (add-one n)
      (elim (cases_lt n m) [
        | inl k ↦ early_step (tenth_end ceiling n) (tenth_end ceiling (n + 1)) (tenth_end ceiling m) floor (sum_int n f) (f n) g (ends_grow ceiling (n + 1) m (omega arith)) r (most n (omega arith))
        | inr k ↦ late_step (tenth_end ceiling n) (tenth_end ceiling (n + 1)) (tenth_end ceiling m) floor (sum_int n f) (f n) g (ends_grow ceiling m n k) r (least n (omega arith) k)
      ])

-- Some arc from the tenth on that begins below what the ten carry can carry less.
pub room_above : (ceiling floor x m : ℕ) (f : ℕ → ℤ) → ((k : ℕ) → k < 10 → f k ≤ℤ pos (most_part ceiling k)) → pos x ≡ sum_int 10 f → tenth_end ceiling m < x → floor < x → (k : ℕ) × (k < 10) × (m ≤ k) × (pos (least_part ceiling floor k) <ℤ f k)
room_above ceiling floor x m f most sum after above = elim (seek (λ k. (m ≤ k) × (pos (least_part ceiling floor k) <ℤ f k)) (λ k. m ≤ k → f k ≤ℤ pos (least_part ceiling floor k)) 10
    (λ k. elim (cases_lt k m) [
      | inl g ↦ inr (λ h. absurd (omega arith))
      | inr g ↦ by_lt_z (pos (least_part ceiling floor k)) (f k) (λ h. inl (g, h)) (λ h. inr (λ _. h))
    ])) [
      | inl g ↦ (g.0, g.1, g.2.0, g.2.1)
      | inr g ↦ absurd (short x (tenth_end ceiling 10) (tenth_end ceiling m) floor (sum_int 10 f) (low_sum ceiling floor m f most (λ k h. g k h) 10 (omega arith)) sum after above)
    ]
  where
    short : (x b10 bm fl : ℕ) (s : ℤ) → s ≤ℤ pos (max (min b10 bm) (min fl b10)) → pos x ≡ s → bm < x → fl < x → ⊥
    short x b10 bm fl s p q r t = omega (arith, ints)

-- a dekatherm up to the ceiling lies in a tenth
pub in_tenth : (ceiling d n : ℕ) → 1 ≤ d → d ≤ tenth_end ceiling n → (j : ℕ) × (j < n) × (tenth_end ceiling j < d) × (d ≤ tenth_end ceiling (j + 1))
in_tenth ceiling d zero h k = let z : tenth_end ceiling 0 ≡ 0 = first_end ceiling in absurd (omega (arith, z, k, h))
in_tenth ceiling d (suc n) h k = elim (cases_lt (tenth_end ceiling n) d) [
  | inl g ↦ (n, omega arith, g, subst (λ m. d ≤ tenth_end ceiling m) (sym (add-one n)) k)
  | inr g ↦ let r : (j : ℕ) × (j < n) × (tenth_end ceiling j < d) × (d ≤ tenth_end ceiling (j + 1)) = in_tenth ceiling d n h g in (r.0, omega (arith, r.1), r.2, r.3)
]

pub tenth_is : (ceiling j d : ℕ) → j < 10 → tenth_end ceiling j < d → d ≤ tenth_end ceiling (j + 1) → tenth_of ceiling d ≡ j + 1
tenth_is ceiling j d h after upto =
    let e : j ≡ j + 1 - 1 = omega arith in
    lies_in ceiling (j + 1) d (omega arith) (omega arith) (subst (λ k. tenth_end ceiling k < d) e after) upto

module _ {V : Type 0} (s : Scale V) (l : IsLawful s) where
  -- a difference of two values is one of what lacks them
  swapped : (x y : V) → less s x y ≡ less s (s.minus y) (s.minus x)
  swapped x y =
      injective s l (less s x y) (less s (s.minus y) (s.minus x)) (s.minus x)
      (ap (λ w. s.plus w (s.minus x)) (l.commutes x (s.minus y)) ∙ l.associates (s.minus y) x (s.minus x) ∙ ap (s.plus (s.minus y)) (l.inverse x) ∙ l.neutral (s.minus y) ∙ sym (less_back s l (s.minus y) (s.minus x)))

  gain_first : (v a b : V) → s.plus (s.plus a v) (s.minus b) ≡ s.plus v (less s a b)
  gain_first v a b = ap (λ w. s.plus w (s.minus b)) (l.commutes a v) ∙ l.associates v a (s.minus b)

  -- nothing is gained along
  margin_low : (v a b : V) → AtMost s (s.plus a v) b → AtMost s (s.plus v (less s a b)) s.none
  margin_low v a b h =
      subst (λ w. AtMost s w s.none) (gain_first v a b)
      (subst (λ w. AtMost s (s.plus (s.plus a v) (s.minus b)) w) (l.inverse b) (at_most_left s l (s.plus a v) b (s.minus b) h))

  -- nor back
  margin_high : (v a b : V) → AtMost s (s.plus b (s.minus v)) a → AtMost s s.none (s.plus v (less s a b))
  margin_high v a b h =
      subst (λ w. AtMost s s.none w) (sym (l.associates a v (s.minus b)) ∙ gain_first v a b)
      (subst (λ w. AtMost s w (s.plus a (less s v b))) (less_chain s l v b v ∙ l.inverse v) (at_most_left s l (less s b v) a (less s v b) h))

  price_low : (a b g : V) → g ≡ s.none → AtMost s (s.plus a g) b → AtMost s (less s a b) s.none
  price_low a b g e h =
      subst (λ w. AtMost s (less s a b) w) (l.inverse b)
      (at_most_left s l a b (s.minus b) (subst (λ w. AtMost s w b) (ap (s.plus a) e ∙ l.neutral a) h))

  price_high : (a b g : V) → g ≡ s.none → AtMost s (s.plus b (s.minus g)) a → AtMost s s.none (less s a b)
  price_high a b g e h =
      subst (λ w. AtMost s w (less s a b)) (l.inverse b)
      (at_most_left s l b a (s.minus b) (subst (λ w. AtMost s w a) (ap (λ w. s.plus b (s.minus w)) e ∙ ap (s.plus b) (minus_none s l) ∙ l.neutral b) h))

  -- A price above zero wants a full arc, one below zero an empty one.
  clears_from : (x : Element) (z : ℤ) (p : V) → pos 0 ≤ℤ z → z ≤ℤ pos (most_of x) → (z <ℤ pos (most_of x) → AtMost s p s.none) → (pos 0 <ℤ z → AtMost s s.none p) → Clears s x z p
  clears_from x z p lo hi along back = by_element x lo hi along back
    where
      full : (most : ℕ) → z ≤ℤ pos most → (z <ℤ pos most → AtMost s p s.none) → IsAbove s p s.none → z ≡ pos most
      full most h k above = by_lt_z z (pos most) (λ g. absurd (k g above)) (λ g. omega (arith, ints))

      empty : (pos 0 ≤ℤ z) → (pos 0 <ℤ z → AtMost s s.none p) → IsAbove s s.none p → z ≡ pos 0
      empty h k above = by_lt_z (pos 0) z (λ g. absurd (k g above)) (λ g. omega (arith, ints))

      by_element : (x : Element) → pos 0 ≤ℤ z → z ≤ℤ pos (most_of x) → (z <ℤ pos (most_of x) → AtMost s p s.none) → (pos 0 <ℤ z → AtMost s s.none p) → Clears s x z p
      by_element (Segment from to capacity) lo hi along back = (full capacity hi along, empty lo back)
      by_element (Receipt place capacity) lo hi along back = (full capacity hi along, empty lo back)
      by_element (Delivery place capacity) lo hi along back = (full capacity hi along, empty lo back)
      by_element (Pool place) lo hi along back = tt

  module _ (unit : ℕ → ℕ → V) (falls : NeverRises s unit) (q : Question) (n : Net) (flow : List ℤ) (x : List ℕ) (gain : ℕ → V) (label : ℕ → V) (prices : List V)
      (lines : HasLines q) (w : IsWired q n) (within : IsWithin n flow) (of : IsScheduleOf q flow x)
      (gains : IsGains s unit q gain) (still : IsStill s n flow gain label) (are : ArePrices s q label prices) where
    -- what a line pays is how far its destination lies below its origin
    crossed_falls : (i : ℕ) → i < length q.lines → crossed s q prices i ≡ less s (label (end_node (line q i).origin)) (label (end_node (line q i).dest))
    crossed_falls i h =
        let turned : ℕ → V = λ v. s.minus (label v) in
        total_same s l (length q.elements) (λ e. multiple s (crossing q i e) (price s prices e)) (λ e. multiple s (crossing q i e) (less s (turned (stop q e)) (turned (start q e))))
        (λ e k. ap (multiple s (crossing q i e)) (are.falls e k ∙ swapped (label (start q e)) (label (stop q e))))
        ∙ line_rise s l turned q i (lines i h)
        ∙ sym (swapped (label (end_node (line q i).origin)) (label (end_node (line q i).dest)))

    margin_is : (i d : ℕ) → i < length q.lines → margin s unit q prices i d ≡ s.plus (worth_of unit (line q i) d) (less s (label (end_node (line q i).dest)) (label (end_node (line q i).origin)))
    margin_is i d h = ap (λ p. s.plus (worth_of unit (line q i) d) (s.minus p)) (crossed_falls i h) ∙ ap (s.plus (worth_of unit (line q i) d)) (less_turned s l (label (end_node (line q i).origin)) (label (end_node (line q i).dest)))

    some_up : (i : ℕ) → i < length q.lines → (k : ℕ) → k < 10 → pos 0 ≤ℤ flow_at flow (tenth_arc q i k)
    some_up i h k j =
        let a : pos (least_part (line q i).ceiling (line q i).floor k) ≤ℤ flow_at flow (tenth_arc q i k) = subst (λ z. z ≤ℤ flow_at flow (tenth_arc q i k)) (w.line_least i k h j) (within.above (tenth_arc q i k) (tenth_in q n w i k h j)) in
        above_none (least_part (line q i).ceiling (line q i).floor k) (flow_at flow (tenth_arc q i k)) a
      where
        above_none : (a : ℕ) (z : ℤ) → pos a ≤ℤ z → pos 0 ≤ℤ z
        above_none a z h = omega (arith, ints)

    all_down : (i : ℕ) → i < length q.lines → (k : ℕ) → k < 10 → flow_at flow (tenth_arc q i k) ≤ℤ pos (most_part (line q i).ceiling k)
    all_down i h k j = subst (λ z. flow_at flow (tenth_arc q i k) ≤ℤ z) (w.line_most i k h j) (within.below (tenth_arc q i k) (tenth_in q n w i k h j))

    tenth_along : (i k : ℕ) → i < length q.lines → k < 10 → flow_at flow (tenth_arc q i k) <ℤ pos (most_part (line q i).ceiling k) → AtMost s (s.plus (label (end_node (line q i).dest)) (unit (line q i).class (k + 1))) (label (end_node (line q i).origin))
    tenth_along i k h j room =
        let a : ℕ = tenth_arc q i k in
        subst (λ g. AtMost s (s.plus (label (end_node (line q i).dest)) g) (label (end_node (line q i).origin))) (gains.tenths i k h j)
        (subst (λ v. AtMost s (s.plus (label v) (gain a)) (label (end_node (line q i).origin))) (w.line_from i k h j)
        (subst (λ v. AtMost s (s.plus (label (from_at n a)) (gain a)) (label v)) (w.line_to i k h j)
        (still.along a (tenth_in q n w i k h j) (subst (λ z. flow_at flow a <ℤ z) (sym (w.line_most i k h j)) room))))

    tenth_back : (i k : ℕ) → i < length q.lines → k < 10 → pos (least_part (line q i).ceiling (line q i).floor k) <ℤ flow_at flow (tenth_arc q i k) → AtMost s (s.plus (label (end_node (line q i).origin)) (s.minus (unit (line q i).class (k + 1)))) (label (end_node (line q i).dest))
    tenth_back i k h j room =
        let a : ℕ = tenth_arc q i k in
        subst (λ g. AtMost s (s.plus (label (end_node (line q i).origin)) (s.minus g)) (label (end_node (line q i).dest))) (gains.tenths i k h j)
        (subst (λ v. AtMost s (s.plus (label (end_node (line q i).origin)) (s.minus (gain a))) (label v)) (w.line_from i k h j)
        (subst (λ v. AtMost s (s.plus (label v) (s.minus (gain a))) (label (from_at n a))) (w.line_to i k h j)
        (still.back a (tenth_in q n w i k h j) (subst (λ z. z <ℤ flow_at flow a) (sym (w.line_least i k h j)) room))))

    -- the next dekatherm of a line is worth no more than it pays
    next_low : (i : ℕ) → i < length q.lines → quantity x i < (line q i).ceiling → AtMost s (margin s unit q prices i (quantity x i + 1)) s.none
    next_low i h below =
        let k : Line = line q i in
        let d : ℕ = quantity x i + 1 in
        let t : (j : ℕ) × (j < 10) × (tenth_end k.ceiling j < d) × (d ≤ tenth_end k.ceiling (j + 1)) = in_tenth k.ceiling d 10 (omega arith) (subst (λ m. d ≤ m) (sym (last_end k.ceiling)) (omega arith)) in
        let r : (m : ℕ) × (m < t.0 + 1) × (flow_at flow (tenth_arc q i m) <ℤ pos (most_part k.ceiling m)) = room_below k.ceiling (quantity x i) (t.0 + 1) (λ m. flow_at flow (tenth_arc q i m)) (some_up i h) (of.sums i h) (omega (arith, t.1)) (omega (arith, t.3)) in
        subst (λ m. AtMost s m s.none) (sym (margin_is i d h))
        (margin_low (worth_of unit k d) (label (end_node k.dest)) (label (end_node k.origin))
        (subst (λ m. AtMost s (s.plus (label (end_node k.dest)) (unit k.class m)) (label (end_node k.origin))) (sym (tenth_is k.ceiling t.0 d t.1 t.2 t.3))
        (at_most_then s l (s.plus (label (end_node k.dest)) (unit k.class (t.0 + 1))) (s.plus (label (end_node k.dest)) (unit k.class (r.0 + 1))) (label (end_node k.origin))
        (at_most_plus s l (label (end_node k.dest)) (label (end_node k.dest)) (unit k.class (t.0 + 1)) (unit k.class (r.0 + 1)) (at_most_itself s l (label (end_node k.dest))) (falls k.class (r.0 + 1) (t.0 + 1) (omega (arith, r.1))))
        (tenth_along i r.0 h (omega (arith, r.1, t.1)) r.2))))

    -- and the last one no less
    last_high : (i : ℕ) → i < length q.lines → quantity x i ≤ (line q i).ceiling → (line q i).floor < quantity x i → AtMost s s.none (margin s unit q prices i (quantity x i))
    last_high i h upto above =
        let k : Line = line q i in
        let d : ℕ = quantity x i in
        let o : V = label (end_node k.origin) in
        let t : (j : ℕ) × (j < 10) × (tenth_end k.ceiling j < d) × (d ≤ tenth_end k.ceiling (j + 1)) = in_tenth k.ceiling d 10 (omega arith) (subst (λ m. d ≤ m) (sym (last_end k.ceiling)) upto) in
        let r : (m : ℕ) × (m < 10) × (t.0 ≤ m) × (pos (least_part k.ceiling k.floor m) <ℤ flow_at flow (tenth_arc q i m)) = room_above k.ceiling k.floor d t.0 (λ m. flow_at flow (tenth_arc q i m)) (all_down i h) (of.sums i h) t.2 above in
        let early : V = unit k.class (t.0 + 1) in
        let late : V = unit k.class (r.0 + 1) in
        subst (λ m. AtMost s s.none m) (sym (margin_is i d h))
        (margin_high (worth_of unit k d) (label (end_node k.dest)) o
        (subst (λ m. AtMost s (s.plus o (s.minus (unit k.class m))) (label (end_node k.dest))) (sym (tenth_is k.ceiling t.0 d t.1 t.2 t.3))
        (at_most_then s l (less s o early) (less s o late) (label (end_node k.dest))
        (further o early late (falls k.class (t.0 + 1) (r.0 + 1) (omega (arith, r.2))))
        (tenth_back i r.0 h r.1 r.3))))
      where
        -- what is taken off a value leaves the less, the more it is
        further : (o a b : V) → AtMost s b a → AtMost s (less s o a) (less s o b)
        further o a b h =
            at_most_back s l (less s o a) (less s o b) (s.plus a b)
            (subst (λ w. AtMost s w (s.plus (less s o b) (s.plus a b))) (sym (sym (l.associates (less s o a) a b) ∙ ap (λ w. s.plus w b) (less_back s l o a)))
            (subst (λ w. AtMost s (s.plus o b) w) (sym (ap (s.plus (less s o b)) (l.commutes a b) ∙ sym (l.associates (less s o b) b a) ∙ ap (λ w. s.plus w a) (less_back s l o b)))
            (at_most_plus s l o o b a (at_most_itself s l o) h)))

    clears_all : (e : ℕ) → e < length q.elements → load q x e ≡ flow_at flow e → Clears s (element q e) (load q x e) (price s prices e)
    clears_all e h through =
        let b : V = label (stop q e) in
        let a : V = label (start q e) in
        let inn : e < length n = element_in q n w e h in
        subst (λ z. Clears s (element q e) z (price s prices e)) (sym through)
        (subst (Clears s (element q e) (flow_at flow e)) (sym (are.falls e h))
        (clears_from (element q e) (flow_at flow e) (less s a b)
        (subst (λ z. z ≤ℤ flow_at flow e) (w.least e h) (within.above e inn))
        (subst (λ z. flow_at flow e ≤ℤ z) (w.most e h) (within.below e inn))
        (λ room. price_low a b (gain e) (gains.elements e h)
        (subst (λ v. AtMost s (s.plus (label v) (gain e)) b) (w.from e h)
        (subst (λ v. AtMost s (s.plus (label (from_at n e)) (gain e)) (label v)) (w.to e h)
        (still.along e inn (subst (λ z. flow_at flow e <ℤ z) (sym (w.most e h)) room)))))
        (λ room. price_high a b (gain e) (gains.elements e h)
        (subst (λ v. AtMost s (s.plus b (s.minus (gain e))) (label v)) (w.from e h)
        (subst (λ v. AtMost s (s.plus (label v) (s.minus (gain e))) (label (from_at n e))) (w.to e h)
        (still.back e inn (subst (λ z. z <ℤ flow_at flow e) (sym (w.least e h)) room)))))))

    -- The prices show the schedule best.
    pub priced : AllBring q → IsCirculation n flow → ((i : ℕ) → i < length q.lines → quantity x i ≤ (line q i).ceiling) → IsPriced s unit q x prices
    priced grown balance ceilings = record {
      shape = are.shape;
      clears = λ e h. clears_all e h (loads_are q n flow x lines grown w balance of e h);
      next = next_low;
      last = λ i h. last_high i h (ceilings i h);
    }
