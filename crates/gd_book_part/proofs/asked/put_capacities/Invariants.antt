use Rattle.std.proofs.Common.{◌≡◌, take}
use Rattle.gd_book_part.specs.Asking.{with_capacities}
use Rattle.gd_book_part.proofs.asked.put_capacities.Given as goal

abbrev pub invariant-loop-at : goal.invariant-loop-at
invariant-loop-at l = l.builder ≡ with_capacities l.fn.builder (take l.at l.capacities)
