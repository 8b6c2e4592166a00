use Rattle.std.proofs.Common.{◌≡◌, ◌≤◌, take}
use Rattle.gasday_archive.specs.Archives.{sound_count}
use Rattle.gasday_archive.proofs.answer.sound_count.Given as goal

-- The findings so far are counted.
abbrev pub invariant-findings : goal.invariant-findings
invariant-findings l = record {
  is : l.count ≡ sound_count (take l.finding-index l.findings);
  low : l.count ≤ l.finding-index;
}
