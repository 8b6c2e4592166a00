use Rattle.std.proofs.Common.{◌≡◌, ◌≤◌, take}
use Rattle.gd_rounds.specs.Summaries.{refused}
use Rattle.gd_rounds.proofs.summary.refused.Given as goal

-- The rows so far are counted.
abbrev pub invariant-rows : goal.invariant-rows
invariant-rows l = record {
  is : l.count ≡ refused (take l.row-index l.rows);
  low : l.count ≤ l.row-index;
}
