use Rattle.std.proofs.Common.{map, get_or}
use Rattle.std.specs.Prelude.{pos}
use Rattle.gd_rules.specs.Question.{element}
use Rattle.gd_rules.specs.Priced.{price, Clears}
use Rattle.gd_schedule.specs.First.{Each}
use Rattle.gd_certificate.proofs.best.first_slack.Given as goal

-- Those so far are right.
abbrev pub invariant-loop-at : goal.invariant-loop-at
invariant-loop-at g l = Each l.at (λ e. Clears g.C.Cost.scale (element l.question.asked e) (get_or l.loads e (pos 0)) (price g.C.Cost.scale (map g.C.Cost.meaning l.prices) e))
