-- Costs of several words keep the laws, and so do pairs of costs that do.
use Rattle.std.proofs.Common.{◌≡◌, ◌≢◌, ℕ, suc, zero, ◌<◌, refl, sym, ap, ◌∙◌, subst, arith, inl, inr}
use Rattle.std.specs.Prelude.{ℤ, ◌+ℤ◌, ◌<ℤ◌, ◌≤ℤ◌}
use Rattle.std.proofs.lemmas.Bool.{cases_lt}
use Rattle.std.specs.declared.cmp.Ordering.{Ordering}
use Rattle.std.specs.declared.cmp.Ordering.TheVariants.{Less, Equal, Greater}
use Rattle.std.specs.Ordering.{int_cmp, ordering_then, MatchOrdering}
use Rattle.std.specs.Cmp.{IsTotalOrder, int_cmp_total, then_total, on_total, int_cmp_is, int_ranks, tied_itself}
use borrow.Author.Differences.{ints}
use lib.IntN.{+ℤ_comm, +ℤ_assoc, +ℤ_idr, +ℤ_invr}
use Rattle.gd_scale.specs.Scale.{Scale}
use Rattle.gd_scale.specs.Laws.{IsLawful}
use Rattle.gd_scale.specs.Words.{words, words_order, both}
use Rattle.gd_scale.specs.Sizes.{whole}

-- order of whole numbers
pub ranked_plus : (x y z : ℤ) (r : Ordering) → MatchOrdering r (x <ℤ y) (x ≡ y) (y <ℤ x) → MatchOrdering r ((x +ℤ z) <ℤ (y +ℤ z)) ((x +ℤ z) ≡ (y +ℤ z)) ((y +ℤ z) <ℤ (x +ℤ z))
ranked_plus x y z Less h = omega (arith, ints)
ranked_plus x y z Equal h = ap (λ w. w +ℤ z) h
ranked_plus x y z Greater h = omega (arith, ints)

pub int_kept : (x y z : ℤ) → int_cmp (x +ℤ z) (y +ℤ z) ≡ int_cmp x y
int_kept x y z = sym (int_cmp_is (x +ℤ z) (y +ℤ z) (int_cmp x y) (ranked_plus x y z (int_cmp x y) (int_ranks x y)))

pub whole_lawful : IsLawful whole
whole_lawful = record { commutes = +ℤ_comm; associates = +ℤ_assoc; neutral = +ℤ_idr; inverse = +ℤ_invr; total = int_cmp_total; kept = int_kept }

-- n words
level_total : {K : Type 0} → IsTotalOrder {K = K} (λ x y. Equal)
level_total = record { antisymm = λ x y. refl; trans = λ x y z p q. p; congr = λ x y z p. refl }

pub words_total : (n : ℕ) → IsTotalOrder (words_order n)
unfolding words_order
words_total zero = level_total
words_total (suc n) = then_total (words_total n) (on_total (λ (x : ℕ → ℤ). x n) int_cmp_total)

pub words_kept : (n : ℕ) (x y z : ℕ → ℤ) → words_order n (λ k. x k +ℤ z k) (λ k. y k +ℤ z k) ≡ words_order n x y
unfolding words_order
words_kept zero x y z = refl
words_kept (suc n) x y z = ap (λ r. ordering_then r (int_cmp (x n +ℤ z n) (y n +ℤ z n))) (words_kept n x y z) ∙ ap (ordering_then (words_order n x y)) (int_kept (x n) (y n) (z n))

pub words_lawful : (n : ℕ) → IsLawful (words n)
words_lawful n = record {
  commutes = λ x y i k. +ℤ_comm (x k) (y k) i;
  associates = λ x y z i k. +ℤ_assoc (x k) (y k) (z k) i;
  neutral = λ x i k. +ℤ_idr (x k) i;
  inverse = λ x i k. +ℤ_invr (x k) i;
  total = words_total n;
  kept = words_kept n;
}

pub both_lawful : {A B : Type 0} (a : Scale A) (b : Scale B) → IsLawful a → IsLawful b → IsLawful (both a b)
both_lawful {A} {B} a b l m = record {
  commutes = λ x y i. (l.commutes x.0 y.0 i, m.commutes x.1 y.1 i);
  associates = λ x y z i. (l.associates x.0 y.0 z.0 i, m.associates x.1 y.1 z.1 i);
  neutral = λ x i. (l.neutral x.0 i, m.neutral x.1 i);
  inverse = λ x i. (l.inverse x.0 i, m.inverse x.1 i);
  total = then_total (on_total (λ (x : A × B). x.0) l.total) (on_total (λ (x : A × B). x.1) m.total);
  kept = λ x y z. ap (λ r. ordering_then r (b.order (b.plus x.1 z.1) (b.plus y.1 z.1))) (l.kept x.0 y.0 z.0) ∙ ap (ordering_then (a.order x.0 y.0)) (m.kept x.1 y.1 z.1);
}

-- words that agree are level
pub words_level : (n : ℕ) (x y : ℕ → ℤ) → ((k : ℕ) → k < n → x k ≡ y k) → words_order n x y ≡ Equal
unfolding words_order
words_level zero x y h = refl
words_level (suc n) x y h =
    ap (λ r. ordering_then r (int_cmp (x n) (y n))) (words_level n x y (λ k g. h k (omega arith)))
    ∙ ap (λ w. int_cmp (x n) w) (sym (h n (omega arith))) ∙ tied_itself int_cmp_total (x n)

-- the first word that differs decides
pub words_greater : (n k : ℕ) (x y : ℕ → ℤ) → k < n → ((j : ℕ) → j < k → x j ≡ y j) → y k <ℤ x k → words_order n x y ≡ Greater
unfolding words_order
words_greater zero k x y lt same above = absurd (omega arith)
words_greater (suc n) k x y lt same above = elim (cases_lt k n) [
  | inl g ↦ ap (λ r. ordering_then r (int_cmp (x n) (y n))) (words_greater n k x y g same above)
  | inr g ↦
      let e : k ≡ n = omega arith in
      ap (λ r. ordering_then r (int_cmp (x n) (y n))) (words_level n x y (λ j f. same j (omega arith)))
      ∙ sym (int_cmp_is (x n) (y n) Greater (subst (λ j. y j <ℤ x j) e above))
]

-- what is no more at either is no more
pub then_not : (r t : Ordering) → r ≢ Greater → t ≢ Greater → ordering_then r t ≢ Greater
then_not Less t h k e = cc
then_not Equal t h k e = k e
then_not Greater t h k e = h refl

cmp_not : (x y : ℤ) (r : Ordering) → MatchOrdering r (x <ℤ y) (x ≡ y) (y <ℤ x) → x ≤ℤ y → r ≢ Greater
cmp_not x y Less m h e = cc
cmp_not x y Equal m h e = cc
cmp_not x y Greater m h e = absurd (omega (arith, ints))

-- no word more is no more
pub words_at_most : (n : ℕ) (x y : ℕ → ℤ) → ((k : ℕ) → x k ≤ℤ y k) → words_order n x y ≢ Greater
unfolding words_order
words_at_most zero x y h = λ e. cc
words_at_most (suc n) x y h = then_not (words_order n x y) (int_cmp (x n) (y n)) (words_at_most n x y h) (cmp_not (x n) (y n) (int_cmp (x n) (y n)) (int_ranks (x n) (y n)) (h n))
