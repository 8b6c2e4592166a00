use Rattle.std.proofs.Common.{◌≡◌, ◌≤◌, ◌*◌}
use Rattle.gd_scale.specs.Sum.{sum_nat}
use Rattle.gd_rules.specs.Question.{element}
use Rattle.gd_rules.specs.Cut.{way_out}
use Rattle.gd_certificate.specs.Cutting.{side_of}
use Rattle.gd_certificate.proofs.cut.can_leave.Given as goal

-- The elements so far are added.
abbrev pub invariant-loop-at : goal.invariant-loop-at
invariant-loop-at l = record {
  is : l.sum ≡ sum_nat l.at (λ e. way_out (side_of l.question.pipeline l.cut) e (element l.question.asked e));
  small : l.sum ≤ l.at * 1000000000;
}
