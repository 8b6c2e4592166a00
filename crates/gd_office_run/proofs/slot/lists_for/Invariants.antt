use Rattle.std.proofs.Common.{◌≡◌, length}
use Rattle.gd_office_run.specs.Picking.{AreEmpty}
use Rattle.gd_office_run.proofs.slot.lists_for.Given as goal

abbrev pub invariant-loop-at : goal.invariant-loop-at
invariant-loop-at g l = (length l.holding.items ≡ l.at) × AreEmpty l.holding.items
