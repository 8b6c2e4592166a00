-- Costs of several words, and of two parts.
use Rattle.std.specs.Prelude.{ℕ, zero, suc, ℤ, pos, ◌+ℤ◌, neg_ℤ, Bool, true, ◌&&◌, int_le, nat_lt, if◌then◌else◌}
use Rattle.std.specs.declared.cmp.Ordering.{Ordering}
use Rattle.std.specs.declared.cmp.Ordering.TheVariants.{Equal}
use Rattle.std.specs.Ordering.{int_cmp, ordering_then}
use Rattle.gd_scale.specs.Scale.{Scale}

-- Compared at word 0, then at word 1 and so on, before word n.
unfoldable pub words_order : ℕ → (ℕ → ℤ) → (ℕ → ℤ) → Ordering
words_order zero x y = Equal
words_order (suc n) x y = ordering_then (words_order n x y) (int_cmp (x n) (y n))

-- n words, added word by word.
abbrev pub words : ℕ → Scale (ℕ → ℤ)
words n = record {
  none = λ k. pos 0;
  plus = λ x y k. x k +ℤ y k;
  minus = λ x k. neg_ℤ (x k);
  order = words_order n;
}

-- The first parts decide, and the second ones where the first are level.
abbrev pub both : {A B : Type 0} → Scale A → Scale B → Scale (A × B)
both a b = record {
  none = (a.none, b.none);
  plus = λ x y. (a.plus x.0 y.0, b.plus x.1 y.1);
  minus = λ x. (a.minus x.0, b.minus x.1);
  order = λ x y. ordering_then (a.order x.0 y.0) (b.order x.1 y.1);
}

-- f below n, and 0 from there on.
abbrev pub first : ℕ → (ℕ → ℤ) → ℕ → ℤ
first n f k = if nat_lt k n then f k else pos 0

-- A word is at most a bound in size.
abbrev pub word_fits : ℤ → ℤ → Bool
word_fits bound x = int_le x bound && int_le (neg_ℤ x) bound

-- Each word before word n fits.
unfoldable pub words_fit : ℕ → ℤ → (ℕ → ℤ) → Bool
words_fit zero bound x = true
words_fit (suc n) bound x = words_fit n bound x && word_fits bound (x n)
