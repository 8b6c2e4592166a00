-- Questions with the first classes alone, and costs with as many words.
use Rattle.std.specs.Prelude.{◌≡◌, true, ℕ, ◌+◌, ◌<◌, ◌≤◌, ℤ, pos, List, length, map, ◌==◌, if◌then◌else◌}
use Rattle.gd_rules.specs.Question.{Question, line}
use Rattle.gd_rules.specs.Schedule.{IsAllowed, class_total}
use Rattle.gd_rules.specs.Priced.{IsPriced, price}
use Rattle.gd_scale.specs.Words.{first, words, words_fit}
use Rattle.gd_rules.specs.Limits.{most_price_word}

-- Each line's class is from 1 to n.
abbrev pub HasClasses : ℕ → Question → Type 0
HasClasses n q = (i : ℕ) → i < length q.lines → (1 ≤ (line q i).class) × ((line q i).class ≤ n)

-- Better by classes 1 to n: at the first of them where the totals differ, that of a is the greater.
abbrev pub HasBetterAmong : ℕ → Question → List ℕ → List ℕ → Type 0
HasBetterAmong n q a b = (class : ℕ) × (1 ≤ class) × (class ≤ n) × ((c : ℕ) → 1 ≤ c → c < class → class_total q a c ≡ class_total q b c) × (class_total q b class < class_total q a class)

-- Allowed, and no allowed schedule is better by classes 1 to n.
abbrev pub IsBestAmong : ℕ → Question → List ℕ → Type 0
IsBestAmong n q schedule = IsAllowed q schedule × ((other : List ℕ) → IsAllowed q other → HasBetterAmong n q other schedule → ⊥)

-- A dekatherm is worth 1 at its class's word, of n.
abbrev pub unit_among : ℕ → ℕ → ℕ → ℕ → ℤ
unit_among n class tenth = first n (λ k. if class == k + 1 then pos 1 else pos 0)

-- Prices of n words, each at most 2^40 in size, at which the schedule clears by classes 1 to n.
pub record IsPricedAmong (n : ℕ) (q : Question) (schedule : List ℕ) (prices : List (ℕ → ℤ)) : Type 0 where
  pub small : (e : ℕ) → e < length prices → words_fit n (pos most_price_word) (price (words n) prices e) ≡ true
  pub priced : IsPriced (words n) (unit_among n) q schedule prices

-- Prices of n words, with zeros added.
abbrev pub with_zeros : ℕ → List (ℕ → ℤ) → List (ℕ → ℤ)
with_zeros n prices = map (first n) prices
