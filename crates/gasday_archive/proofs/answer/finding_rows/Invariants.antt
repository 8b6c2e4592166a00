use Rattle.std.proofs.Common.{◌≡◌, take}
use Rattle.std.specs.List.{flat_map}
use Rattle.gasday_archive.specs.Archives as spec
use Rattle.gasday_archive.proofs.answer.finding_rows.Given as goal

-- The rows of the findings so far.
abbrev pub invariant-findings : goal.invariant-findings
invariant-findings l = l.rows.items ≡ flat_map spec.finding_rows (take l.finding-index l.findings)
