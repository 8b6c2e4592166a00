use Rattle.std.proofs.Common.{◌≡◌, ◌++◌, drop, map}
use Rattle.gd_cost.specs.Parts.{class_words}
use Rattle.gd_system.specs.Pipeline.{names_of}
use Rattle.gd_replies.specs.Replies.{price_rows}
use Rattle.gd_replies.proofs.solved.push_prices.Given as goal

-- The rows so far and those of the elements that are left are all rows.
abbrev pub invariant-elements : goal.invariant-elements
invariant-elements l =
    l.rows.items ++ price_rows (drop l.element (names_of l.question.pipeline)) (map class_words (drop l.element l.prices))
    ≡ l.fn.rows.items ++ price_rows (names_of l.question.pipeline) (map class_words l.prices)
