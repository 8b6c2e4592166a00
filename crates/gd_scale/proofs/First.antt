-- Words that are kept in a list of n.
use Rattle.std.proofs.Common.{◌≡◌, ◌≢◌, ℕ, suc, zero, ◌+◌, ◌<◌, List, length, get_or, set, refl, sym, ap, ◌∙◌, subst, arith, Bool, true, false, ◌&&◌, below_more, get_or-set_other, get_or-set_same}
use Rattle.std.specs.Prelude.{ℤ, pos, ◌+ℤ◌, ◌-ℤ◌, ◌*ℤ◌, neg_ℤ, if◌then◌else◌, nat_lt}
use Rattle.std.specs.Ordering.{int_cmp, ordering_then}
use borrow.Author.Tests.{ltb-true, lt-ltb}
use Rattle.gd_scale.specs.Scale.{multiple}
use Rattle.gd_scale.specs.Words.{words, words_order, word_fits, words_fit, first}
use Rattle.gd_scale.proofs.Bounds.{words_multiple, fit_at}
use lib.IntN.{*ℤ-zero}

pub first_is : (n : ℕ) (f : ℕ → ℤ) (k : ℕ) → k < n → first n f k ≡ f k
first_is n f k h = ap (λ b. if b then f k else pos 0) (lt-ltb k n h)

-- functions that agree below n are one there
pub order_same : (n : ℕ) (f f' g g' : ℕ → ℤ) → ((k : ℕ) → k < n → f k ≡ f' k) → ((k : ℕ) → k < n → g k ≡ g' k) → words_order n f g ≡ words_order n f' g'
unfolding words_order
order_same zero f f' g g' p q = refl
order_same (suc n) f f' g g' p q =
    ap (λ r. ordering_then r (int_cmp (f n) (g n))) (order_same n f f' g g' (λ k h. p k (omega arith)) (λ k h. q k (omega arith)))
    ∙ ap (λ z. ordering_then (words_order n f' g') (int_cmp z (g n))) (p n (omega arith))
    ∙ ap (λ z. ordering_then (words_order n f' g') (int_cmp (f' n) z)) (q n (omega arith))

pub fit_same : (n : ℕ) (b : ℤ) (f f' : ℕ → ℤ) → ((k : ℕ) → k < n → f k ≡ f' k) → words_fit n b f ≡ words_fit n b f'
unfolding words_fit
fit_same zero b f f' p = refl
fit_same (suc n) b f f' p =
    ap (λ r. r && word_fits b (f n)) (fit_same n b f f' (λ k h. p k (omega arith))) ∙ ap (λ z. words_fit n b f' && word_fits b z) (p n (omega arith))

pub first_order : (n : ℕ) (f g : ℕ → ℤ) → words_order n (first n f) (first n g) ≡ words_order n f g
first_order n f g = order_same n (first n f) f (first n g) g (first_is n f) (first_is n g)

pub first_fit : (n : ℕ) (b : ℤ) (f : ℕ → ℤ) → words_fit n b (first n f) ≡ words_fit n b f
first_fit n b f = fit_same n b (first n f) f (first_is n f)

pub first_fit_at : (n : ℕ) (b : ℤ) (f : ℕ → ℤ) → words_fit n b (first n f) ≡ true → (k : ℕ) → k < n → word_fits b (f k) ≡ true
first_fit_at n b f h k lt = subst (λ z. word_fits b z ≡ true) (first_is n f k lt) (fit_at n b (first n f) h k lt)

chosen : (b : Bool) (x y z : ℤ) → (b ≡ true → x ≡ y +ℤ z) → (if b then x else pos 0) ≡ (if b then y else pos 0) +ℤ (if b then z else pos 0)
chosen true x y z h = h refl
chosen false x y z h = refl

chosen_less : (b : Bool) (x y z : ℤ) → (b ≡ true → x ≡ y -ℤ z) → (if b then x else pos 0) ≡ (if b then y else pos 0) +ℤ neg_ℤ (if b then z else pos 0)
chosen_less true x y z h = h refl
chosen_less false x y z h = refl

chosen_times : (b : Bool) (x c y : ℤ) → (b ≡ true → x ≡ c *ℤ y) → (if b then x else pos 0) ≡ c *ℤ (if b then y else pos 0)
chosen_times true x c y h = h refl
chosen_times false x c y h = sym (*ℤ-zero c)

pub first_plus : (n : ℕ) (r f g : ℕ → ℤ) → ((k : ℕ) → k < n → r k ≡ f k +ℤ g k) → first n r ≡ (words n).plus (first n f) (first n g)
first_plus n r f g h i k = chosen (nat_lt k n) (r k) (f k) (g k) (λ e. h k (ltb-true k n e)) i

pub first_less : (n : ℕ) (r f g : ℕ → ℤ) → ((k : ℕ) → k < n → r k ≡ f k -ℤ g k) → first n r ≡ (words n).plus (first n f) ((words n).minus (first n g))
first_less n r f g h i k = chosen_less (nat_lt k n) (r k) (f k) (g k) (λ e. h k (ltb-true k n e)) i

pub first_times : (n : ℕ) (c : ℤ) (r f : ℕ → ℤ) → ((k : ℕ) → k < n → r k ≡ c *ℤ f k) → first n r ≡ multiple (words n) c (first n f)
first_times n c r f h i k = (chosen_times (nat_lt k n) (r k) c (f k) (λ e. h k (ltb-true k n e)) ∙ sym (words_multiple n c (first n f) k)) i

-- one more word of a list
pub set_more : (ws : List ℤ) (n : ℕ) (v : ℤ) (f : ℕ → ℤ) → n < length ws → ((k : ℕ) → k < n → get_or ws k (pos 0) ≡ f k) → v ≡ f n → (k : ℕ) → k < n + 1 → get_or (set ws n v) k (pos 0) ≡ f k
set_more ws n v f lt before e =
    below_more _ _
    (λ k h. let ne : k ≢ n = omega arith in rw get_or-set_other (before k h))
    (rw get_or-set_same e)
