use Rattle.std.proofs.Common.{◌≡◌, ℕ, ◌+◌, ◌<◌, ◌++◌, length, get_or, drop}
use Rattle.std.specs.Vec.Iter.{into_iter_items, into_iter_len}
use Rattle.std.specs.Global.{Vec}
use Rattle.gd_office_run.specs.Picking.{pick}
use Rattle.gd_office_run.proofs.slot.distribute.Given as goal

-- What a slot has, with what it will have of the items that are left.
abbrev pub invariant-loop-item : goal.invariant-loop-item
invariant-loop-item g l =
    record {
      left : l.at + into_iter_len l.item-iterator ≡ length l.rows;
      same : length l.holding.items ≡ length l.fn.holding.items;
      more : (k : ℕ) (d : Vec g.row.T.Denot) → k < length l.fn.holding.items
          → (get_or l.holding.items k d).items ++ pick k (drop l.at l.rows) (into_iter_items l.item-iterator)
          ≡ (get_or l.fn.holding.items k d).items ++ pick k l.rows l.fn.items.items;
    }
