use Rattle.std.proofs.Common.{get_or}
use Rattle.std.specs.Prelude.{pos}
use Rattle.gd_rules.specs.Question.{element}
use Rattle.gd_question.specs.Known.{limit_of}
use Rattle.gd_schedule.specs.First.{Each}
use Rattle.gd_schedule.specs.Exact.{WithinLimit}
use Rattle.gd_schedule.proofs.allowed.first_over.Given as goal

-- The elements so far are right.
abbrev pub invariant-loop-element : goal.invariant-loop-element
invariant-loop-element l = Each l.element (λ e. WithinLimit (limit_of (element l.question.asked e)) (get_or l.loads e (pos 0)))
