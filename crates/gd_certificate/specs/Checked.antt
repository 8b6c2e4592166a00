-- A question with a schedule and prices that passed the check.
use Rattle.std.specs.Prelude.{ℕ, List, map}
use Rattle.gd_rules.specs.Schedule.{IsAllowed}
use Rattle.gd_rules.specs.Tariff.{IsPricedByTariff}
use Rattle.gd_rules.specs.Limits.{classes}
use Rattle.gd_question.specs.Posing.{Posed}
use Rattle.gd_cost.specs.Parts.{class_words}
use Rattle.gd_cost.specs.declared.lex.Lex.{Lex}
use Rattle.gd_cost.specs.declared.pair.Pair.{Pair}

pub record Certificate : Type 0 where
  pub question : Posed
  pub schedule : List ℕ
  pub prices : List (Pair (Lex classes) (Lex classes))

-- The schedule is allowed, and the prices are right by the tariff in force.
abbrev pub IsRight : Certificate → Type 0
IsRight c = IsAllowed c.question.asked c.schedule × IsPricedByTariff c.question.asked c.schedule (map class_words c.prices)
