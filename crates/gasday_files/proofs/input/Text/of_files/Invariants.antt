use Rattle.std.specs.Prelude.{map, take}
use Rattle.gasday_files.specs.Texts.{IsMadeOf}
use Rattle.gasday_files.proofs.input.Text.of_files.Given as goal

-- the files so far
abbrev pub invariant-names : goal.invariant-names
invariant-names l = IsMadeOf (map (λ n. n.now) (take l.name-index l.fn.names)) l.text
