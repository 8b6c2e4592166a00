use Rattle.std.proofs.Common.{◌≡◌, ◌+◌, ◌++◌, string_bytes}
use Rattle.std.specs.List.{flat_map, range_with_len}
use Rattle.gd_cost.specs.Parts.{class_words}
use Rattle.gd_body.specs.Rows.{lines_of, level_row}
use Rattle.gd_body.proofs.taken.write_price.Given as goal

-- The rows of the classes so far.
abbrev pub invariant-classes : goal.invariant-classes
invariant-classes l =
    string_bytes l.text ≡ string_bytes l.fn.text
    ++ lines_of (flat_map (λ k. level_row l.element (k + 1) ((class_words l.price).0 k) ((class_words l.price).1 k)) (range_with_len 0 l.class))
