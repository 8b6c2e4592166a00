use Rattle.std.proofs.Common.{◌≡◌, ◌∷◌}
use Rattle.gd_replies.specs.Replies.{totals_to}
use Rattle.gd_replies.proofs.replies.good_replies.Given as goal

-- The totals of the classes so far.
abbrev pub invariant-classes : goal.invariant-classes
invariant-classes l = l.rows.items ≡ l.fn.good ∷ totals_to l.question.asked l.schedule l.at
