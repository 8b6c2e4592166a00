-- What a dekatherm is worth by the tariff in force, and by classes alone, and prices by both.
use Rattle.std.specs.Prelude.{◌≡◌, ℕ, ◌+◌, ◌<◌, ℤ, pos, neg_ℤ, true, List, length, ◌==◌, if◌then◌else◌}
use Rattle.gd_rules.specs.Question.{Question}
use Rattle.gd_rules.specs.Priced.{IsPriced, price}
use Rattle.gd_scale.specs.Scale.{Scale}
use Rattle.gd_scale.specs.Words.{both, first, words, words_fit}
use Rattle.gd_rules.specs.Limits.{classes, most_price_word}

-- n at the class's word, else 0. Class 1 has word 0.
abbrev pub at_class : ℕ → ℤ → ℕ → ℤ
at_class class n = first classes (λ k. if class == k + 1 then n else pos 0)

-- A dekatherm is worth 1 at its class.
abbrev pub class_unit : ℕ → ℕ → ℕ → ℤ
class_unit class tenth = at_class class (pos 1)

abbrev pub tariff : Scale ((ℕ → ℤ) × (ℕ → ℤ))
tariff = both (words classes) (words classes)

-- A dekatherm is worth 1 at its class, and minus its tenth there.
abbrev pub tariff_unit : ℕ → ℕ → (ℕ → ℤ) × (ℕ → ℤ)
tariff_unit class tenth = (at_class class (pos 1), at_class class (neg_ℤ (pos tenth)))

-- Each of eight words is at most 2^40 in size (own limit).
abbrev pub IsSmall : (ℕ → ℤ) → Type 0
IsSmall x = words_fit classes (pos most_price_word) x ≡ true

-- An element's price is a pair of lists of one number for each class. The first list is compared first, each from class 1 on.
pub record IsPricedByTariff (q : Question) (schedule : List ℕ) (prices : List ((ℕ → ℤ) × (ℕ → ℤ))) : Type 0 where
  pub small : (e : ℕ) → e < length prices → IsSmall (price tariff prices e).0 × IsSmall (price tariff prices e).1
  pub priced : IsPriced tariff tariff_unit q schedule prices

-- One list of class words for each element, and every dekatherm worth 1 at its class.
pub record IsPricedByClasses (q : Question) (schedule : List ℕ) (prices : List (ℕ → ℤ)) : Type 0 where
  pub small : (e : ℕ) → e < length prices → IsSmall (price (words classes) prices e)
  pub priced : IsPriced (words classes) class_unit q schedule prices
