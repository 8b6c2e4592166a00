use Rattle.std.proofs.Common.{◌≡◌, ◌*◌}
use Rattle.std.specs.Prelude.{pos, ◌*ℤ◌}
use Rattle.gd_scale.specs.Sum.{sum_int}
use Rattle.gd_rules.specs.Question.{crossing}
use Rattle.gd_rules.specs.Schedule.{quantity}
use Rattle.gd_schedule.specs.Sizes.{IsSized}
use Rattle.gd_schedule.proofs.Schedule.load.Given as goal

-- The lines so far are added.
abbrev pub invariant-loop-line : goal.invariant-loop-line
invariant-loop-line l = record {
  is : l.load ≡ sum_int l.line (λ i. crossing l.question.asked i l.element.0 *ℤ pos (quantity l.self i));
  sized : IsSized (l.line * 1000000000) l.load;
}
