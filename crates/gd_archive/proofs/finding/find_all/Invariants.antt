use Rattle.std.proofs.Common.{◌≡◌, option_map}
use Rattle.gd_archive.specs.Findings.{before_of}
use Rattle.gd_archive.proofs.Found.{FoundUpTo}
use Rattle.gd_archive.proofs.finding.find_all.Given as goal

-- The rows so far are found so, and the last of them is known.
abbrev pub invariant-rows : goal.invariant-rows
invariant-rows l = record {
  found : FoundUpTo l.rows l.row-index l.findings.items;
  behind : option_map (λ row. row.now) l.before ≡ before_of l.rows l.row-index;
}
