use Rattle.std.proofs.Common.{◌≡◌, ◌≤◌, ◌*◌, ◌&&◌}
use Rattle.std.specs.Prelude.{if◌then◌else◌, not}
use Rattle.gd_scale.specs.Sum.{sum_nat}
use Rattle.gd_rules.specs.Question.{line}
use Rattle.gd_rules.specs.Cut.{has_end}
use Rattle.gd_certificate.specs.Cutting.{side_of}
use Rattle.gd_certificate.proofs.cut.may_enter.Given as goal

-- The lines so far are added.
abbrev pub invariant-loop-line : goal.invariant-loop-line
invariant-loop-line l = record {
  is : l.sum ≡ sum_nat l.line (λ i. if has_end (side_of l.question.pipeline l.cut) (line l.question.asked i).dest && not (has_end (side_of l.question.pipeline l.cut) (line l.question.asked i).origin) then (line l.question.asked i).ceiling else 0);
  small : l.sum ≤ l.line * 1000000000;
}
