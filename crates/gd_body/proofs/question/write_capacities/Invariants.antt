use Rattle.std.proofs.Common.{◌≡◌, ◌++◌, string_bytes}
use Rattle.std.specs.List.{flat_map, range_with_len}
use Rattle.gd_body.specs.Rows.{lines_of, capacity_row}
use Rattle.gd_body.proofs.question.write_capacities.Given as goal

-- The rows of the elements so far.
abbrev pub invariant-elements : goal.invariant-elements
invariant-elements l = string_bytes l.text ≡ string_bytes l.fn.text ++ lines_of (flat_map (capacity_row l.question) (range_with_len 0 l.element))
