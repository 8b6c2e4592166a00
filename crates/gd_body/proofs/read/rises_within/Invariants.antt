use Rattle.std.proofs.Common.{◌≡◌, drop}
use Rattle.gd_body.specs.Body.{rises_within}
use Rattle.gd_body.proofs.Rising.{rises_from}
use Rattle.gd_body.proofs.read.rises_within.Given as goal

-- What is said of the lines that are left is said of all.
abbrev pub invariant-lines : goal.invariant-lines
invariant-lines l = rises_from l.first l.count (drop l.line-index l.bumped) ≡ rises_within l.count l.bumped
