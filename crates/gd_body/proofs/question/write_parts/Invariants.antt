use Rattle.std.proofs.Common.{◌≡◌, ◌++◌, map, string_bytes}
use Rattle.std.specs.List.{range_with_len}
use Rattle.gd_body.specs.Rows.{lines_of, part_row}
use Rattle.gd_body.proofs.question.write_parts.Given as goal

-- The rows of the elements so far.
abbrev pub invariant-elements : goal.invariant-elements
invariant-elements l = string_bytes l.text ≡ string_bytes l.fn.text ++ lines_of (map (part_row l.system) (range_with_len 0 l.element))
