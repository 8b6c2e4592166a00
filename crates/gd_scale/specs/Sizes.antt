-- Whole numbers, and how many values of several words fit a bound, in their order.
use Rattle.std.specs.Prelude.{ℕ, zero, suc, ◌+◌, ◌*◌, ℤ, pos, ◌+ℤ◌, neg_ℤ, Bool, ◌&&◌, unsigned_abs, List, [], ◌∷◌, ◌++◌}
use Rattle.std.specs.Ordering.{int_cmp}
use Rattle.gd_scale.specs.Scale.{Scale}

-- Whole numbers.
abbrev pub whole : Scale ℤ
whole = record { none = pos 0; plus = λ x y. x +ℤ y; minus = neg_ℤ; order = int_cmp }

-- The rank of a number that fits b.
abbrev pub word_rank : ℕ → ℤ → ℕ
word_rank b x = unsigned_abs (pos b +ℤ x)

abbrev pub word_size : ℕ → ℕ
word_size b = 2 * b + 1

-- The rank of n words that fit b is theirs as digits, each from 0 to twice b.
unfoldable pub words_rank : ℕ → ℕ → (ℕ → ℤ) → ℕ
words_rank zero b x = 0
words_rank (suc n) b x = words_rank n b x * word_size b + word_rank b (x n)

unfoldable pub words_size : ℕ → ℕ → ℕ
words_size zero b = 1
words_size (suc n) b = words_size n b * word_size b

abbrev pub both_fit : {A B : Type 0} → (ℤ → A → Bool) → (ℤ → B → Bool) → ℤ → A × B → Bool
both_fit f g bound x = f bound x.0 && g bound x.1

abbrev pub both_size : (ℕ → ℕ) → (ℕ → ℕ) → ℕ → ℕ
both_size m n b = m b * n b

abbrev pub both_rank : {A B : Type 0} → (ℕ → A → ℕ) → (ℕ → ℕ) → (ℕ → B → ℕ) → ℕ → A × B → ℕ
both_rank rank size second b x = rank b x.0 * size b + second b x.1

-- f 0 to f (n - 1), in a list.
abbrev pub listed : ℕ → (ℕ → ℤ) → List ℤ
listed zero f = []
listed (suc n) f = listed n f ++ f n ∷ []
