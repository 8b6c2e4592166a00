use Rattle.std.proofs.Common.{ℕ, ◌≤◌, ◌*◌, ◌-◌, get_or}
use Rattle.std.specs.Prelude.{if◌then◌else◌, ◌==◌}
use Rattle.gd_scale.specs.Sum.{sum_nat}
use Rattle.gd_rules.specs.Question.{line}
use Rattle.gd_rules.specs.Schedule.{quantity}
use Rattle.gd_rules.specs.Spread.{line_weight}
use Rattle.gd_schedule.specs.Order.{IsByClass}
use Rattle.gd_schedule.proofs.classes.class_weights.Given as goal

-- The lines so far are counted.
abbrev pub invariant-loop-line : goal.invariant-loop-line
invariant-loop-line l = record {
  is : IsByClass (λ class. sum_nat l.line (λ i. if (line l.question.asked i).class == class then line_weight (line l.question.asked i) (quantity l.schedule i) else 0)) l.weights;
  high : (class : ℕ) → 1 ≤ class → class ≤ 8 → get_or l.weights (class - 1) 0 ≤ l.line * 10000000000;
}
