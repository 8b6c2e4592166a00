-- The check at the two costs in use.
use Rattle.std.specs.Prelude.{ℕ, ℤ, List}
use Rattle.gd_rules.specs.Question.{Question}
use Rattle.gd_scale.specs.Words.{words, words_fit}
use Rattle.gd_scale.specs.Sizes.{both_fit}
use Rattle.gd_rules.specs.Tariff.{tariff, tariff_unit, class_unit}
use Rattle.gd_rules.specs.Limits.{classes}
use Rattle.gd_certificate.specs.Exact.{Explains}
use Rattle.gd_certificate.specs.declared.CertFault.{CertFault}

-- What is first wrong with prices by the tariff in force.
abbrev pub ExplainsTariff : Question → List ℕ → List ((ℕ → ℤ) × (ℕ → ℤ)) → CertFault → Type 0
ExplainsTariff q schedule prices fault = Explains tariff (both_fit (words_fit classes) (words_fit classes)) tariff_unit q schedule prices fault

-- What is first wrong with prices by classes alone.
abbrev pub ExplainsClasses : Question → List ℕ → List (ℕ → ℤ) → CertFault → Type 0
ExplainsClasses q schedule prices fault = Explains (words classes) (words_fit classes) class_unit q schedule prices fault
