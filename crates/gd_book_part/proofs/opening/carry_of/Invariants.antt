use Rattle.std.proofs.Common.{◌≡◌, ◌≤◌, take}
use Rattle.std.specs.Prelude.{All}
use Rattle.gd_table.specs.Table.{IsUnique}
use Rattle.gd_rules.specs.Lines.{same_key}
use Rattle.gd_book_part.proofs.opening.carry_of.Given as goal

abbrev pub invariant-loop-at : goal.invariant-loop-at
invariant-loop-at l = record {
  entered : l.entries.entries ≡ take l.at l.carry;
  distinct : IsUnique same_key l.entries;
  small : All (λ c. c.1 ≤ 1000000000) (take l.at l.carry);
}
