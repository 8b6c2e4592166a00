-- What the fields of the lines stand for.
use Rattle.std.specs.Prelude.{ℕ, List, map, unwrap_or}
use Rattle.gd_table.specs.Table.{keys, get}
use Rattle.gd_rules.specs.Lines.{Nomination, same_name}
use Rattle.gd_lines.specs.Kept.{nomination_of, AreKept}
use Rattle.gd_lines.specs.declared.lines.Lines.TheInside.{Inside}

abbrev pub accepted_of : Inside → List Nomination
accepted_of l = map (nomination_of (keys l.keys)) l.accepted.items

abbrev pub sum_in : Inside → List ℕ → ℕ
sum_in l contract = unwrap_or (get same_name l.sums contract) 0

abbrev pub IsKept : Inside → Type 0
IsKept l = AreKept (accepted_of l) (keys l.keys) l.states.items l.accepted.items (sum_in l) l.counts
