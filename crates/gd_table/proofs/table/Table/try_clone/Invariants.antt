use Rattle.std.proofs.Common.{◌≡◌, ◌+◌, ◌≤◌, length, take}
use Rattle.gd_table.proofs.table.Table.try_clone.Given as goal

abbrev pub invariant-loop-at : goal.invariant-loop-at
invariant-loop-at g l = record {
  copied : l.copy.entries ≡ take l.at l.self.entries;
  room : length l.self.entries ≤ l.at + l.copy.spare;
  same : l.entries ≡ l.self.entries;
}
