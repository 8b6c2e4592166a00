-- The lists of numbers that a price means.
use Rattle.std.specs.Prelude.{ℕ, ℤ, pos, get_or}
use Rattle.gd_scale.specs.Words.{first}
use Rattle.gd_cost.specs.declared.lex.Lex.{Lex}
use Rattle.gd_cost.specs.declared.pair.Pair.{Pair}

-- The words by number, and 0 past the last.
abbrev pub words_of : (n : ℕ) → Lex n → ℕ → ℤ
words_of n x = first n (λ k. get_or x.words k (pos 0))

-- Two lists of eight words, one for each class.
abbrev pub class_words : Pair (Lex 8) (Lex 8) → (ℕ → ℤ) × (ℕ → ℤ)
class_words x = (words_of 8 x.first, words_of 8 x.second)
