use Rattle.std.proofs.Common.{◌≡◌, ◌-◌, [], take, drop}
use Rattle.gd_text_part.specs.Lines.{cut_at_commas}
use Rattle.gd_text_part.proofs.line.first_field.Given as goal

-- the bytes that are left are cut, behind those before them, as all are
abbrev pub invariant-bytes : goal.invariant-bytes
invariant-bytes l = cut_at_commas (take (l.end - 0) (drop 0 l.line)) (drop l.end l.line) ≡ cut_at_commas [] l.line
