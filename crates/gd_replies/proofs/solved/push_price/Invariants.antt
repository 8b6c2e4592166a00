use Rattle.std.proofs.Common.{◌≡◌, ◌+◌, ◌++◌}
use Rattle.std.specs.List.{flat_map, range_with_len}
use Rattle.gd_cost.specs.Parts.{class_words}
use Rattle.gd_replies.specs.Replies.{level_row}
use Rattle.gd_replies.proofs.solved.push_price.Given as goal

-- The rows of the classes so far.
abbrev pub invariant-classes : goal.invariant-classes
invariant-classes l = l.rows.items ≡ l.fn.rows.items ++ flat_map (λ k. level_row l.element (k + 1) ((class_words l.price).0 k) ((class_words l.price).1 k)) (range_with_len 0 l.class)
