-- The definitions at worked examples.
use Rattle.std.proofs.Common.{◌≡◌, ℕ, zero, suc, refl, true, false}
use Rattle.std.specs.Prelude.{ℤ, pos, negsuc}
use Rattle.std.specs.declared.cmp.Ordering.TheVariants.{Less, Equal, Greater}
use Rattle.gd_scale.specs.Sum.{sum_nat}
use Rattle.gd_scale.specs.Scale.{multiple}
use Rattle.gd_scale.specs.Words.{words, words_order, words_fit, both}
use Rattle.gd_scale.specs.Sizes.{whole, word_rank}

-- 0 + 1 + 2 + 3
sum : sum_nat 4 (λ k. k) ≡ 6
sum = refl

-- minus three times 7
times : multiple whole (negsuc 2) (pos 7) ≡ negsuc 20
times = refl

low : ℕ → ℤ
low zero = pos 1
low (suc k) = negsuc 4

high : ℕ → ℤ
high zero = pos 1
high (suc k) = pos 0

-- (1, -5) and (1, 0) differ at the second word alone
first-word : words_order 1 low high ≡ Equal
unfolding words_order low high
first-word = refl

second-word : words_order 2 low high ≡ Less
unfolding words_order low high
second-word = refl

-- (2, -5) is above (1, 0), whatever the second word says
ahead : ℕ → ℤ
ahead zero = pos 2
ahead (suc k) = negsuc 4

first-decides : words_order 2 ahead high ≡ Greater
unfolding words_order ahead high
first-decides = refl

-- of two groups the first decides, here against the second
groups : (both (words 2) (words 1)).order (high, low) (low, high) ≡ Greater
unfolding words_order low high
groups = refl

-- -5 fits 5 and not 4; its rank among the numbers up to 5 in size is the first
fits : words_fit 2 (pos 5) low ≡ true
unfolding words_fit low
fits = refl

fits-not : words_fit 2 (pos 4) low ≡ false
unfolding words_fit low
fits-not = refl

rank : word_rank 5 (negsuc 4) ≡ 0
rank = refl
