use Rattle.std.proofs.Common.{◌≡◌, ◌+◌, drop}
use Rattle.gd_text.specs.Building.{built_from}
use Rattle.gd_text.specs.Values.{pipeline_step}
use Rattle.gd_text.proofs.values.add_parts.Given as goal

-- What the rows that are left make of the builder is what all of them make of the one it was.
abbrev pub invariant-rows : goal.invariant-rows
invariant-rows l = built_from pipeline_step (l.index + 1) l.builder (drop l.index l.rows) ≡ built_from pipeline_step 1 l.fn.builder l.rows
