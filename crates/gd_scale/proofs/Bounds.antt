-- The bounds and ranks of words, and of pairs.
use Rattle.std.proofs.Common.{◌≡◌, ℕ, suc, zero, ◌+◌, ◌*◌, ◌<◌, ◌≤◌, refl, sym, ap, ◌∙◌, subst, arith, Bool, true, false, ◌&&◌, inl, inr}
use Rattle.std.specs.Prelude.{ℤ, pos, negsuc, ◌+ℤ◌, ◌*ℤ◌, neg_ℤ, ◌<ℤ◌, ◌≤ℤ◌, unsigned_abs}
use Rattle.std.specs.declared.cmp.Ordering.{Ordering}
use Rattle.std.specs.declared.cmp.Ordering.TheVariants.{Less, Equal, Greater}
use Rattle.std.specs.Ordering.{int_cmp, nat_cmp, ordering_then, MatchOrdering}
use Rattle.std.specs.Cmp.{int_ranks, nat_cmp_is, ranked}
use borrow.Author.Differences.{ints}
use Rattle.std.proofs.lemmas.Bool.{cases_lt}
use lib.IntN.{zero-*ℤ, suc_ℤ-*ℤ, *ℤ_comm, *ℤ-negsuc}
use Rattle.std.proofs.lemmas.Int.{unsigned_abs-mul}
use Rattle.std.proofs.Math.Nat.{mul_comm, mul-le-mul_right, suc-mul}
use Rattle.gd_scale.specs.Scale.{Scale, multiple, repeated}
use Rattle.gd_scale.specs.Laws.{IsBounded, IsRanked}
use Rattle.gd_scale.specs.Words.{words, words_order, both, word_fits, words_fit}
use Rattle.gd_scale.specs.Sizes.{whole, word_rank, word_size, words_rank, words_size, both_fit, both_rank, both_size}

word_fits_is : (b x : ℤ) → word_fits b x ≡ true → (x ≤ℤ b) × (neg_ℤ x ≤ℤ b)
word_fits_is b x h = (grind (arith, ints), grind (arith, ints))

is_word_fits : (b x : ℤ) → x ≤ℤ b → neg_ℤ x ≤ℤ b → word_fits b x ≡ true
is_word_fits b x h k = grind (arith, ints)

and_parts : (a b : Bool) → (a && b) ≡ true → (a ≡ true) × (b ≡ true)
and_parts true b h = (refl, h)
and_parts false b h = absurd (let e : false ≡ true = h in cc)

both_true : (a b : Bool) → a ≡ true → b ≡ true → (a && b) ≡ true
both_true true b p q = q
both_true false b p q = absurd (let e : false ≡ true = p in cc)

fits_abs : (b x : ℤ) → word_fits b x ≡ true → (c : ℕ) × (b ≡ pos c) × (unsigned_abs x ≤ c)
fits_abs (pos c) (pos n) h = (c, refl, let k : pos n ≤ℤ pos c = (word_fits_is (pos c) (pos n) h).0 in omega (arith, ints))
fits_abs (pos c) (negsuc n) h = (c, refl, let k : pos (suc n) ≤ℤ pos c = (word_fits_is (pos c) (negsuc n) h).1 in omega (arith, ints))
fits_abs (negsuc c) x h = absurd (let k : x ≤ℤ negsuc c = (word_fits_is (negsuc c) x h).0 in let m : neg_ℤ x ≤ℤ negsuc c = (word_fits_is (negsuc c) x h).1 in omega (arith, ints))

abs_fits : (c : ℕ) (x : ℤ) → unsigned_abs x ≤ c → word_fits (pos c) x ≡ true
abs_fits c (pos n) h = is_word_fits (pos c) (pos n) (omega (arith, ints)) (omega (arith, ints))
abs_fits c (negsuc n) h = is_word_fits (pos c) (negsuc n) (omega (arith, ints)) (let k : suc n ≤ c = h in omega (arith, ints))

-- where fitting words lead to fitting words
fit_on : (n : ℕ) (a c : ℤ) (f h : ℕ → ℤ) → ((k : ℕ) → word_fits a (f k) ≡ true → word_fits c (h k) ≡ true) → words_fit n a f ≡ true → words_fit n c h ≡ true
unfolding words_fit
fit_on zero a c f h p q = refl
fit_on (suc n) a c f h p q =
    let w = and_parts (words_fit n a f) (word_fits a (f n)) q in
    both_true (words_fit n c h) (word_fits c (h n)) (fit_on n a c f h p w.0) (p n w.1)

fit_both : (n : ℕ) (a b c : ℤ) (f g h : ℕ → ℤ) → ((k : ℕ) → word_fits a (f k) ≡ true → word_fits b (g k) ≡ true → word_fits c (h k) ≡ true) → words_fit n a f ≡ true → words_fit n b g ≡ true → words_fit n c h ≡ true
unfolding words_fit
fit_both zero a b c f g h p q r = refl
fit_both (suc n) a b c f g h p q r =
    let w = and_parts (words_fit n a f) (word_fits a (f n)) q in
    let v = and_parts (words_fit n b g) (word_fits b (g n)) r in
    both_true (words_fit n c h) (word_fits c (h n)) (fit_both n a b c f g h p w.0 v.0) (p n w.1 v.1)

none_fit : (n : ℕ) → words_fit n (pos 0) (λ k. pos 0) ≡ true
unfolding words_fit
none_fit zero = refl
none_fit (suc n) = both_true (words_fit n (pos 0) (λ k. pos 0)) (word_fits (pos 0) (pos 0)) (none_fit n) refl

words_repeated : (n m : ℕ) (x : ℕ → ℤ) (k : ℕ) → repeated (words n) m x k ≡ pos m *ℤ x k
words_repeated n zero x k = sym (zero-*ℤ (x k))
words_repeated n (suc m) x k = ap (λ w. w +ℤ x k) (words_repeated n m x k) ∙ sym (suc_ℤ-*ℤ (pos m) (x k))

whole_repeated : (m : ℕ) (x : ℤ) → repeated whole m x ≡ pos m *ℤ x
whole_repeated zero x = sym (zero-*ℤ x)
whole_repeated (suc m) x = ap (λ w. w +ℤ x) (whole_repeated m x) ∙ sym (suc_ℤ-*ℤ (pos m) x)

-- a multiple is a product
pub whole_multiple : (c x : ℤ) → multiple whole c x ≡ c *ℤ x
whole_multiple (pos m) x = whole_repeated m x
whole_multiple (negsuc m) x = ap neg_ℤ (whole_repeated (suc m) x ∙ *ℤ_comm (pos (suc m)) x) ∙ sym (*ℤ-negsuc x m) ∙ *ℤ_comm x (negsuc m)

-- a multiple is one word by word
pub words_multiple : (n : ℕ) (c : ℤ) (x : ℕ → ℤ) (k : ℕ) → multiple (words n) c x k ≡ c *ℤ x k
words_multiple n (pos m) x k = words_repeated n m x k
words_multiple n (negsuc m) x k = ap neg_ℤ (words_repeated n (suc m) x k ∙ *ℤ_comm (pos (suc m)) (x k)) ∙ sym (*ℤ-negsuc (x k) m) ∙ *ℤ_comm (x k) (negsuc m)

word_plus : (a b x y : ℤ) → word_fits a x ≡ true → word_fits b y ≡ true → word_fits (a +ℤ b) (x +ℤ y) ≡ true
word_plus a b x y p q =
    let u : x ≤ℤ a = (word_fits_is a x p).0 in
    let v : neg_ℤ x ≤ℤ a = (word_fits_is a x p).1 in
    let w : y ≤ℤ b = (word_fits_is b y q).0 in
    let z : neg_ℤ y ≤ℤ b = (word_fits_is b y q).1 in
    is_word_fits (a +ℤ b) (x +ℤ y) (omega (arith, ints)) (omega (arith, ints))

word_minus : (a x : ℤ) → word_fits a x ≡ true → word_fits a (neg_ℤ x) ≡ true
word_minus a x p =
    let u : x ≤ℤ a = (word_fits_is a x p).0 in
    let v : neg_ℤ x ≤ℤ a = (word_fits_is a x p).1 in
    is_word_fits a (neg_ℤ x) (omega (arith, ints)) (omega (arith, ints))

word_wider : (a b x : ℤ) → a ≤ℤ b → word_fits a x ≡ true → word_fits b x ≡ true
word_wider a b x h p =
    let u : x ≤ℤ a = (word_fits_is a x p).0 in
    let v : neg_ℤ x ≤ℤ a = (word_fits_is a x p).1 in
    is_word_fits b x (omega (arith, ints)) (omega (arith, ints))

pub word_times : (a k x : ℤ) → word_fits a x ≡ true → word_fits (a *ℤ pos (unsigned_abs k)) (k *ℤ x) ≡ true
word_times a k x p =
    let w = fits_abs a x p in
    subst (λ b. word_fits (b *ℤ pos (unsigned_abs k)) (k *ℤ x) ≡ true) (sym w.1)
    (abs_fits (w.0 * unsigned_abs k) (k *ℤ x)
    (subst (λ m. m ≤ w.0 * unsigned_abs k) (sym (unsigned_abs-mul k x ∙ mul_comm (unsigned_abs k) (unsigned_abs x))) (mul-le-mul_right (unsigned_abs k) w.2)))

pub words_bounded : (n : ℕ) → IsBounded (words n) (words_fit n)
words_bounded n = record {
  none = none_fit n;
  wider = λ a b x h. fit_on n a b x x (λ k. word_wider a b (x k) h);
  plus = λ a b x y. fit_both n a b (a +ℤ b) x y (λ k. x k +ℤ y k) (λ k. word_plus a b (x k) (y k));
  minus = λ a x. fit_on n a a x (λ k. neg_ℤ (x k)) (λ k. word_minus a (x k));
  multiple = λ a c x. fit_on n a (a *ℤ pos (unsigned_abs c)) x (multiple (words n) c x) (λ k h. subst (λ w. word_fits (a *ℤ pos (unsigned_abs c)) w ≡ true) (sym (words_multiple n c x k)) (word_times a c (x k) h));
}

digits_match : (w r t d e : ℕ) → d < w → e < w → (o p : Ordering) → MatchOrdering o (r < t) (r ≡ t) (t < r) → MatchOrdering p (d < e) (d ≡ e) (e < d)
    → MatchOrdering (ordering_then o p) (r * w + d < t * w + e) (r * w + d ≡ t * w + e) (t * w + e < r * w + d)
digits_match w r t d e hd he Less p m n = let k : suc r * w ≤ t * w = mul-le-mul_right w m in omega (arith, suc-mul r w)
digits_match w r t d e hd he Equal Less m n = let k : r * w ≡ t * w = ap (λ x. x * w) m in omega arith
digits_match w r t d e hd he Equal Equal m n = let k : r * w ≡ t * w = ap (λ x. x * w) m in omega arith
digits_match w r t d e hd he Equal Greater m n = let k : r * w ≡ t * w = ap (λ x. x * w) m in omega arith
digits_match w r t d e hd he Greater p m n = let k : suc t * w ≤ r * w = mul-le-mul_right w m in omega (arith, suc-mul t w)

-- two digits are in the order of the first, then of the second
pub digits : (w r t d e : ℕ) → d < w → e < w → nat_cmp (r * w + d) (t * w + e) ≡ ordering_then (nat_cmp r t) (nat_cmp d e)
digits w r t d e hd he =
    sym (nat_cmp_is (r * w + d) (t * w + e) (ordering_then (nat_cmp r t) (nat_cmp d e)) (digits_match w r t d e hd he (nat_cmp r t) (nat_cmp d e) (ranked r t (nat_cmp r t) refl) (ranked d e (nat_cmp d e) refl)))

abs_is : (z : ℤ) → pos 0 ≤ℤ z → pos (unsigned_abs z) ≡ z
abs_is (pos n) h = refl
abs_is (negsuc n) h = absurd (omega (arith, ints))

digit_is : (b : ℕ) (x : ℤ) → word_fits (pos b) x ≡ true → pos (unsigned_abs (pos b +ℤ x)) ≡ pos b +ℤ x
digit_is b x h = abs_is (pos b +ℤ x) (let v : neg_ℤ x ≤ℤ pos b = (word_fits_is (pos b) x h).1 in omega (arith, ints))

digit_below : (b : ℕ) (x : ℤ) → word_fits (pos b) x ≡ true → unsigned_abs (pos b +ℤ x) < 2 * b + 1
digit_below b x h =
    let u : x ≤ℤ pos b = (word_fits_is (pos b) x h).0 in
    let e : pos (unsigned_abs (pos b +ℤ x)) ≡ pos b +ℤ x = digit_is b x h in
    omega (arith, ints)

digit_match : (b : ℕ) (x y : ℤ) (d e : ℕ) → pos d ≡ pos b +ℤ x → pos e ≡ pos b +ℤ y → (o : Ordering) → MatchOrdering o (x <ℤ y) (x ≡ y) (y <ℤ x) → MatchOrdering o (d < e) (d ≡ e) (e < d)
digit_match b x y d e p q Less m = omega (arith, ints)
digit_match b x y d e p q Equal m = omega (arith, ints)
digit_match b x y d e p q Greater m = omega (arith, ints)

digit_order : (b : ℕ) (x y : ℤ) → word_fits (pos b) x ≡ true → word_fits (pos b) y ≡ true → nat_cmp (unsigned_abs (pos b +ℤ x)) (unsigned_abs (pos b +ℤ y)) ≡ int_cmp x y
digit_order b x y h k =
    let d : ℕ = unsigned_abs (pos b +ℤ x) in
    let e : ℕ = unsigned_abs (pos b +ℤ y) in
    sym (nat_cmp_is d e (int_cmp x y) (digit_match b x y d e (digit_is b x h) (digit_is b y k) (int_cmp x y) (int_ranks x y)))

rank_below : (m n r d : ℕ) → r < m → d < n → r * n + d < m * n
rank_below m n r d h k = let g : suc r * n ≤ m * n = mul-le-mul_right n h in omega (arith, suc-mul r n)

words_below : (n b : ℕ) (x : ℕ → ℤ) → words_fit n (pos b) x ≡ true → words_rank n b x < words_size n b
unfolding words_fit words_rank words_size
words_below zero b x h = omega arith
words_below (suc n) b x h =
    let w = and_parts (words_fit n (pos b) x) (word_fits (pos b) (x n)) h in
    rank_below (words_size n b) (2 * b + 1) (words_rank n b x) (unsigned_abs (pos b +ℤ x n)) (words_below n b x w.0) (digit_below b (x n) w.1)

words_in_order : (n b : ℕ) (x y : ℕ → ℤ) → words_fit n (pos b) x ≡ true → words_fit n (pos b) y ≡ true → nat_cmp (words_rank n b x) (words_rank n b y) ≡ words_order n x y
unfolding words_fit words_rank words_order
words_in_order zero b x y h k = refl
words_in_order (suc n) b x y h k =
    let w = and_parts (words_fit n (pos b) x) (word_fits (pos b) (x n)) h in
    let v = and_parts (words_fit n (pos b) y) (word_fits (pos b) (y n)) k in
    digits (2 * b + 1) (words_rank n b x) (words_rank n b y) (unsigned_abs (pos b +ℤ x n)) (unsigned_abs (pos b +ℤ y n)) (digit_below b (x n) w.1) (digit_below b (y n) v.1)
    ∙ ap (λ r. ordering_then r (nat_cmp (unsigned_abs (pos b +ℤ x n)) (unsigned_abs (pos b +ℤ y n)))) (words_in_order n b x y w.0 v.0)
    ∙ ap (ordering_then (words_order n x y)) (digit_order b (x n) (y n) w.1 v.1)

pub whole_bounded : IsBounded whole word_fits
whole_bounded = record {
  none = refl;
  wider = word_wider;
  plus = word_plus;
  minus = word_minus;
  multiple = λ a k x h. subst (λ w. word_fits (a *ℤ pos (unsigned_abs k)) w ≡ true) (sym (whole_multiple k x)) (word_times a k x h);
}

pub whole_ranked : IsRanked whole word_fits word_size word_rank
whole_ranked = record { below = digit_below; in_order = digit_order }

-- each of the words fits
pub fit_at : (n : ℕ) (b : ℤ) (f : ℕ → ℤ) → words_fit n b f ≡ true → (k : ℕ) → k < n → word_fits b (f k) ≡ true
unfolding words_fit
fit_at zero b f h k lt = absurd (omega arith)
fit_at (suc n) b f h k lt =
    let w = and_parts (words_fit n b f) (word_fits b (f n)) h in
    elim (cases_lt k n) [ inl g ↦ fit_at n b f w.0 k g | inr g ↦ let e : n ≡ k = omega arith in subst (λ j. word_fits b (f j) ≡ true) e w.1 ]

pub words_ranked : (n : ℕ) → IsRanked (words n) (words_fit n) (words_size n) (words_rank n)
words_ranked n = record { below = words_below n; in_order = words_in_order n }

-- ---- pairs, from their parts

module _ {A B : Type 0} (a : Scale A) (b : Scale B) where
  both_repeated : (m : ℕ) (x : A × B) → repeated (both a b) m x ≡ (repeated a m x.0, repeated b m x.1)
  both_repeated zero x = refl
  both_repeated (suc m) x = ap (λ w. (both a b).plus w x) (both_repeated m x)

  pub both_multiple : (k : ℤ) (x : A × B) → multiple (both a b) k x ≡ (multiple a k x.0, multiple b k x.1)
  both_multiple (pos m) x = both_repeated m x
  both_multiple (negsuc m) x = ap (both a b).minus (both_repeated (suc m) x)

  pub both_bounded : {f : ℤ → A → Bool} {g : ℤ → B → Bool} → IsBounded a f → IsBounded b g → IsBounded (both a b) (both_fit f g)
  both_bounded {f} {g} p q = record {
    none = both_true (f (pos 0) a.none) (g (pos 0) b.none) p.none q.none;
    wider = λ m n x h k. let w = and_parts (f m x.0) (g m x.1) k in both_true (f n x.0) (g n x.1) (p.wider m n x.0 h w.0) (q.wider m n x.1 h w.1);
    plus = λ m n x y h k. let w = and_parts (f m x.0) (g m x.1) h in let v = and_parts (f n y.0) (g n y.1) k in both_true (f (m +ℤ n) (a.plus x.0 y.0)) (g (m +ℤ n) (b.plus x.1 y.1)) (p.plus m n x.0 y.0 w.0 v.0) (q.plus m n x.1 y.1 w.1 v.1);
    minus = λ m x h. let w = and_parts (f m x.0) (g m x.1) h in both_true (f m (a.minus x.0)) (g m (b.minus x.1)) (p.minus m x.0 w.0) (q.minus m x.1 w.1);
    multiple = λ m k x h. let w = and_parts (f m x.0) (g m x.1) h in
        subst (λ z. both_fit f g (m *ℤ pos (unsigned_abs k)) z ≡ true) (sym (both_multiple k x))
        (both_true (f (m *ℤ pos (unsigned_abs k)) (multiple a k x.0)) (g (m *ℤ pos (unsigned_abs k)) (multiple b k x.1)) (p.multiple m k x.0 w.0) (q.multiple m k x.1 w.1));
  }

  pub both_ranked : {f : ℤ → A → Bool} {g : ℤ → B → Bool} {m n : ℕ → ℕ} {r : ℕ → A → ℕ} {t : ℕ → B → ℕ} → IsRanked a f m r → IsRanked b g n t → IsRanked (both a b) (both_fit f g) (both_size m n) (both_rank r n t)
  both_ranked {f} {g} {m} {n} {r} {t} p q = record {
    below = λ c x h. let w = and_parts (f (pos c) x.0) (g (pos c) x.1) h in rank_below (m c) (n c) (r c x.0) (t c x.1) (p.below c x.0 w.0) (q.below c x.1 w.1);
    in_order = λ c x y h k. let w = and_parts (f (pos c) x.0) (g (pos c) x.1) h in let v = and_parts (f (pos c) y.0) (g (pos c) y.1) k in
        digits (n c) (r c x.0) (r c y.0) (t c x.1) (t c y.1) (q.below c x.1 w.1) (q.below c y.1 v.1)
        ∙ ap (λ z. ordering_then z (nat_cmp (t c x.1) (t c y.1))) (p.in_order c x.0 y.0 w.0 v.0)
        ∙ ap (ordering_then (a.order x.0 y.0)) (q.in_order c x.1 y.1 w.1 v.1);
  }
