-- Prices of few words, and with zeros added.
use Rattle.std.proofs.Common.{◌≡◌, ◌≢◌, ℕ, suc, zero, ◌+◌, ◌^◌, ◌&&◌, ◌<◌, ◌≤◌, List, [], ◌∷◌, length, get_or, map, arith, Bool, true, false, sym, ap, ◌∙◌, refl, subst, add-suc, add-zero}
use Rattle.std.specs.Prelude.{ℤ, pos, ◌+ℤ◌, ◌*ℤ◌, neg_ℤ, if◌then◌else◌, ◌==◌, ◌↔◌, nat_lt}
use Rattle.std.specs.declared.cmp.Ordering.{Ordering}
use Rattle.std.specs.declared.cmp.Ordering.TheVariants.{Less, Equal, Greater}
use Rattle.std.specs.Ordering.{int_cmp, ordering_then}
use Rattle.std.specs.Cmp.{int_cmp_total, tied_itself}
use Rattle.std.proofs.lemmas.List.{length-map}
use borrow.Author.Tests.{ltb-true, eqb-true}
use lib.IntN.{*ℤ-zero}
use Rattle.gd_scale.specs.Sum.{sum_int}
use Rattle.gd_scale.specs.Scale.{Scale, multiple, total_below}
use Rattle.gd_rules.specs.Question.{Element, Question, element, line, crossing}
use Rattle.gd_rules.specs.Question.Element.{Segment, Receipt, Delivery, Pool}
use Rattle.gd_rules.specs.Schedule.{load, quantity}
use Rattle.gd_rules.specs.Spread.{tenth_of}
use Rattle.gd_rules.specs.Priced.{IsPriced, Clears, price, crossed, margin}
use Rattle.gd_scale.specs.Words.{words, words_order, word_fits, words_fit, first}
use Rattle.gd_scale.proofs.Bounds.{words_multiple}
use Rattle.gd_scale.proofs.First.{first_is, order_same, fit_same}
use Rattle.gd_rules.specs.Classes.{HasClasses, IsPricedAmong, unit_among, with_zeros}

then_equal : (r : Ordering) → ordering_then r Equal ≡ r
then_equal Less = refl
then_equal Equal = refl
then_equal Greater = refl

-- words that agree from m on are ordered by the first m
order_fewer : (m j : ℕ) (x y : ℕ → ℤ) → ((k : ℕ) → m ≤ k → k < m + j → x k ≡ y k) → words_order (m + j) x y ≡ words_order m x y
unfolding words_order
order_fewer m zero x y h = rw add-zero refl
order_fewer m (suc j) x y h =
    ap (λ n. words_order n x y) (add-suc m j)
    ∙ ap (λ w. ordering_then (words_order (m + j) x y) (int_cmp (x (m + j)) w)) (sym (h (m + j) (omega arith) (omega arith)))
    ∙ ap (ordering_then (words_order (m + j) x y)) (tied_itself int_cmp_total (x (m + j)))
    ∙ then_equal (words_order (m + j) x y)
    ∙ order_fewer m j x y (λ k a b. h k a (omega arith))

abbrev none : ℕ → ℤ
none k = pos 0

first_past : (m : ℕ) (f : ℕ → ℤ) (k : ℕ) → m ≤ k → first m f k ≡ pos 0
first_past m f k h = at (nat_lt k m) refl
  where
    at : (b : Bool) → nat_lt k m ≡ b → (if b then f k else pos 0) ≡ pos 0
    at true e = let w : k < m = ltb-true k m e in absurd (omega arith)
    at false e = refl

price_kept : (m : ℕ) (prices : List (ℕ → ℤ)) (e k : ℕ) → k < m → get_or (map (first m) prices) e none k ≡ get_or prices e none k
price_kept m [] e k h = refl
price_kept m (p ∷ ps) zero k h = first_is m p k h
price_kept m (p ∷ ps) (suc e) k h = price_kept m ps e k h

price_zero : (m : ℕ) (prices : List (ℕ → ℤ)) (e k : ℕ) → m ≤ k → get_or (map (first m) prices) e none k ≡ pos 0
price_zero m [] e k h = refl
price_zero m (p ∷ ps) zero k h = first_past m p k h
price_zero m (p ∷ ps) (suc e) k h = price_zero m ps e k h

words_sum : (m n : ℕ) (f : ℕ → ℕ → ℤ) (k : ℕ) → total_below (words m) n f k ≡ sum_int n (λ i. f i k)
words_sum m zero f k = refl
words_sum m (suc n) f k = ap (λ w. w +ℤ f n k) (words_sum m n f k)

int_same : (n : ℕ) (f g : ℕ → ℤ) → ((i : ℕ) → f i ≡ g i) → sum_int n f ≡ sum_int n g
int_same zero f g h = refl
int_same (suc n) f g h = ap (λ w. w +ℤ f n) (int_same n f g h) ∙ ap (λ w. sum_int n g +ℤ w) (h n)

int_none : (n : ℕ) → sum_int n (λ i. pos 0) ≡ pos 0
int_none zero = refl
int_none (suc n) = ap (λ w. w +ℤ pos 0) (int_none n)

-- word k of what a line pays
crossed_word : (n : ℕ) (q : Question) (prices : List (ℕ → ℤ)) (i k : ℕ) → crossed (words n) q prices i k ≡ sum_int (length q.elements) (λ e. crossing q i e *ℤ get_or prices e none k)
crossed_word n q prices i k =
    words_sum n (length q.elements) (λ e. multiple (words n) (crossing q i e) (price (words n) prices e)) k
    ∙ int_same (length q.elements) (λ e. multiple (words n) (crossing q i e) (price (words n) prices e) k) (λ e. crossing q i e *ℤ get_or prices e none k) (λ e. words_multiple n (crossing q i e) (price (words n) prices e) k)

crossed_kept : (m n : ℕ) (q : Question) (prices : List (ℕ → ℤ)) (i k : ℕ) → k < m → crossed (words m) q prices i k ≡ crossed (words n) q (with_zeros m prices) i k
crossed_kept m n q prices i k h =
    crossed_word m q prices i k
    ∙ int_same (length q.elements) (λ e. crossing q i e *ℤ get_or prices e none k) (λ e. crossing q i e *ℤ get_or (with_zeros m prices) e none k) (λ e. ap (λ w. crossing q i e *ℤ w) (sym (price_kept m prices e k h)))
    ∙ sym (crossed_word n q (with_zeros m prices) i k)

crossed_zero : (m n : ℕ) (q : Question) (prices : List (ℕ → ℤ)) (i k : ℕ) → m ≤ k → crossed (words n) q (with_zeros m prices) i k ≡ pos 0
crossed_zero m n q prices i k h =
    crossed_word n q (with_zeros m prices) i k
    ∙ int_same (length q.elements) (λ e. crossing q i e *ℤ get_or (with_zeros m prices) e none k) (λ e. pos 0) (λ e. ap (λ w. crossing q i e *ℤ w) (price_zero m prices e k h) ∙ *ℤ-zero (crossing q i e))
    ∙ int_none (length q.elements)

-- the unit has no words past the classes
unit_kept : (m n class tenth k : ℕ) → m ≤ n → k < m → unit_among m class tenth k ≡ unit_among n class tenth k
unit_kept m n class tenth k h j = first_is m (λ k. if class == k + 1 then pos 1 else pos 0) k j ∙ sym (first_is n (λ k. if class == k + 1 then pos 1 else pos 0) k (omega arith))

unit_zero : (m n class tenth k : ℕ) → class ≤ m → m ≤ k → k < n → unit_among n class tenth k ≡ pos 0
unit_zero m n class tenth k h j w = first_is n (λ k. if class == k + 1 then pos 1 else pos 0) k w ∙ at (class == k + 1) refl
  where
    at : (b : Bool) → (class == k + 1) ≡ b → (if b then pos 1 else pos 0) ≡ pos 0
    at true e = let f : class ≡ k + 1 = eqb-true class (k + 1) e in absurd (omega arith)
    at false e = refl

margin_kept : (m n : ℕ) (q : Question) (prices : List (ℕ → ℤ)) (i d k : ℕ) → m ≤ n → k < m → margin (words m) (unit_among m) q prices i d k ≡ margin (words n) (unit_among n) q (with_zeros m prices) i d k
margin_kept m n q prices i d k h j =
    ap (λ w. w +ℤ neg_ℤ (crossed (words m) q prices i k)) (unit_kept m n (line q i).class (tenth_of (line q i).ceiling d) k h j)
    ∙ ap (λ w. unit_among n (line q i).class (tenth_of (line q i).ceiling d) k +ℤ neg_ℤ w) (crossed_kept m n q prices i k j)

margin_zero : (m n : ℕ) (q : Question) (prices : List (ℕ → ℤ)) (i d k : ℕ) → (line q i).class ≤ m → m ≤ k → k < n → margin (words n) (unit_among n) q (with_zeros m prices) i d k ≡ pos 0
margin_zero m n q prices i d k h j w =
    ap (λ z. z +ℤ neg_ℤ (crossed (words n) q (with_zeros m prices) i k)) (unit_zero m n (line q i).class (tenth_of (line q i).ceiling d) k h j w)
    ∙ ap (λ z. pos 0 +ℤ neg_ℤ z) (crossed_zero m n q prices i k j)

-- words with zeros added are ordered as before
order_more : (m j : ℕ) (x y x' y' : ℕ → ℤ) → ((k : ℕ) → k < m → x k ≡ x' k) → ((k : ℕ) → k < m → y k ≡ y' k) → ((k : ℕ) → m ≤ k → k < m + j → x' k ≡ y' k) → words_order m x y ≡ words_order (m + j) x' y'
order_more m j x y x' y' p r t = order_same m x x' y y' p r ∙ sym (order_fewer m j x' y' t)

clears_same : {V : Type 0} (s t : Scale V) (el : Element) (z : ℤ) (p p' : V) → s.order p s.none ≡ t.order p' t.none → s.order s.none p ≡ t.order t.none p' → Clears s el z p → Clears t el z p'
clears_same s t (Segment from to capacity) z p p' e f h = (λ a. h.0 (e ∙ a), λ a. h.1 (f ∙ a))
clears_same s t (Receipt place capacity) z p p' e f h = (λ a. h.0 (e ∙ a), λ a. h.1 (f ∙ a))
clears_same s t (Delivery place capacity) z p p' e f h = (λ a. h.0 (e ∙ a), λ a. h.1 (f ∙ a))
clears_same s t (Pool place) z p p' e f h = tt

module _ (m j : ℕ) (q : Question) (x : List ℕ) (prices : List (ℕ → ℤ)) (h : HasClasses m q) where
  abbrev pub n : ℕ
  n = m + j

  above_none : (e : ℕ) → words_order m (price (words m) prices e) none ≡ words_order n (price (words n) (with_zeros m prices) e) none
  above_none e = order_more m j (price (words m) prices e) none (price (words n) (with_zeros m prices) e) none (λ k a. sym (price_kept m prices e k a)) (λ k a. refl) (λ k a b. price_zero m prices e k a)

  none_above : (e : ℕ) → words_order m none (price (words m) prices e) ≡ words_order n none (price (words n) (with_zeros m prices) e)
  none_above e = order_more m j none (price (words m) prices e) none (price (words n) (with_zeros m prices) e) (λ k a. refl) (λ k a. sym (price_kept m prices e k a)) (λ k a b. sym (price_zero m prices e k a))

  margin_above : (i d : ℕ) → i < length q.lines → words_order m (margin (words m) (unit_among m) q prices i d) none ≡ words_order n (margin (words n) (unit_among n) q (with_zeros m prices) i d) none
  margin_above i d c = order_more m j (margin (words m) (unit_among m) q prices i d) none (margin (words n) (unit_among n) q (with_zeros m prices) i d) none (λ k a. margin_kept m n q prices i d k (omega arith) a) (λ k a. refl) (λ k a b. margin_zero m n q prices i d k (h i c).1 a b)

  margin_below : (i d : ℕ) → i < length q.lines → words_order m none (margin (words m) (unit_among m) q prices i d) ≡ words_order n none (margin (words n) (unit_among n) q (with_zeros m prices) i d)
  margin_below i d c = order_more m j none (margin (words m) (unit_among m) q prices i d) none (margin (words n) (unit_among n) q (with_zeros m prices) i d) (λ k a. refl) (λ k a. margin_kept m n q prices i d k (omega arith) a) (λ k a b. sym (margin_zero m n q prices i d k (h i c).1 a b))

  -- Prices clear exactly where they do with zeros added.
  pub priced_among : IsPriced (words m) (unit_among m) q x prices ↔ IsPriced (words n) (unit_among n) q x (with_zeros m prices)
  priced_among = (
    λ p. record {
      shape = length-map prices (first m) ∙ p.shape;
      clears = λ e a. clears_same (words m) (words n) (element q e) (load q x e) (price (words m) prices e) (price (words n) (with_zeros m prices) e) (above_none e) (none_above e) (p.clears e a);
      next = λ i a b. subst (λ r. r ≢ Greater) (margin_above i (quantity x i + 1) a) (p.next i a b);
      last = λ i a b. subst (λ r. r ≢ Greater) (margin_below i (quantity x i) a) (p.last i a b);
    },
    λ p. record {
      shape = sym (length-map prices (first m)) ∙ p.shape;
      clears = λ e a. clears_same (words n) (words m) (element q e) (load q x e) (price (words n) (with_zeros m prices) e) (price (words m) prices e) (sym (above_none e)) (sym (none_above e)) (p.clears e a);
      next = λ i a b. subst (λ r. r ≢ Greater) (sym (margin_above i (quantity x i + 1) a)) (p.next i a b);
      last = λ i a b. subst (λ r. r ≢ Greater) (sym (margin_below i (quantity x i) a)) (p.last i a b);
    },
  )

and_true : (b : Bool) → (b && true) ≡ b
and_true true = refl
and_true false = refl

-- words with zeros added fit where the words do
fit_more : (m j : ℕ) (b : ℤ) (f g : ℕ → ℤ) → word_fits b (pos 0) ≡ true → ((k : ℕ) → k < m → g k ≡ f k) → ((k : ℕ) → m ≤ k → g k ≡ pos 0) → words_fit (m + j) b g ≡ words_fit m b f
unfolding words_fit
fit_more m zero b f g z h n = rw add-zero (fit_same m b g f h)
fit_more m (suc j) b f g z h n =
    ap (λ i. words_fit i b g) (add-suc m j)
    ∙ ap (λ w. words_fit (m + j) b g && word_fits b w) (n (m + j) (omega arith))
    ∙ ap (λ w. words_fit (m + j) b g && w) z
    ∙ and_true (words_fit (m + j) b g)
    ∙ fit_more m j b f g z h n

-- Prices are right among the first classes exactly where they are right among more, with zeros added.
pub right_among : (m j : ℕ) (q : Question) (x : List ℕ) (prices : List (ℕ → ℤ)) → HasClasses m q → IsPricedAmong m q x prices ↔ IsPricedAmong (m + j) q x (with_zeros m prices)
right_among m j q x prices h =
    let n = m + j in
    let same : (e : ℕ) → words_fit n (pos (2 ^ 40)) (price (words n) (with_zeros m prices) e) ≡ words_fit m (pos (2 ^ 40)) (price (words m) prices e) =
    λ e. fit_more m j (pos (2 ^ 40)) (price (words m) prices e) (price (words n) (with_zeros m prices) e) refl (λ k a. price_kept m prices e k a) (λ k a. price_zero m prices e k a) in
    let few = length-map prices (first m) in (
      λ p. record { small = λ e a. same e ∙ p.small e (subst (λ i. e < i) few a); priced = (priced_among m j q x prices h).0 p.priced },
      λ p. record { small = λ e a. sym (same e) ∙ p.small e (subst (λ i. e < i) (sym few) a); priced = (priced_among m j q x prices h).1 p.priced },
    )
