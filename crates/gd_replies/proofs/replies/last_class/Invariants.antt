use Rattle.std.proofs.Common.{◌≡◌, ◌≤◌}
use Rattle.std.specs.Prelude.{max}
use Rattle.gd_scale.specs.Sum.{sum_below}
use Rattle.gd_rules.specs.Question.{line}
use Rattle.gd_replies.proofs.replies.last_class.Given as goal

-- The greatest class so far.
abbrev pub invariant-loop-line : goal.invariant-loop-line
invariant-loop-line l = record {
  is : l.last ≡ sum_below 4 max l.line (λ i. (line l.question.asked i).class);
  high : l.last ≤ 8;
}
