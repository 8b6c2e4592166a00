-- What a solver answers.
use Rattle.std.specs.Prelude.{ℕ, List, map}
use Rattle.gd_rules.specs.Schedule.{IsAllowed}
use Rattle.gd_rules.specs.Spread.{IsBest}
use Rattle.gd_rules.specs.Tariff.{IsPricedByTariff}
use Rattle.gd_question.specs.Posing.{Posed}
use Rattle.gd_cost.specs.Parts.{class_words}
use Rattle.gd_certificate.specs.Explained.{IsShaped, Cuts}
use Rattle.gd_solver.specs.declared.answer.Answer.{Answer}
use Rattle.gd_solver.specs.declared.answer.Answer.TheVariants.{Best, Impossible}

-- A best schedule with prices by the tariff that show it best, or a cut where no schedule is allowed.
abbrev pub Solves : Posed → Answer → Type 0
Solves q (Best schedule prices) =
    IsAllowed q.asked schedule × IsPricedByTariff q.asked schedule (map class_words prices)
    × IsBest q.asked schedule
Solves q (Impossible cut) =
    IsShaped q.pipeline cut × Cuts q cut × ((schedule : List ℕ) → IsAllowed q.asked schedule → ⊥)
