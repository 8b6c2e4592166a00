use Rattle.std.proofs.Common.{◌≡◌, ◌+◌, ◌-◌, ◌≤◌, length}
use Rattle.gd_flow.specs.Search.{find_at, IsSearch, AreTried}
use Rattle.gd_flow.proofs.search.Search.run.Given as goal

abbrev pub invariant-loop-at : goal.invariant-loop-at
invariant-loop-at l = record {
  search : IsSearch l.network l.flow l.search;
  first : (find_at l.search 0).node ≡ l.from;
  tried : AreTried l.network.arcs l.flow l.search l.at;
  within : l.at ≤ length l.search.finds.items;
}

abbrev pub decreases-loop-at : goal.decreases-loop-at
decreases-loop-at l = length l.network.question.asked.elements + 1 - l.at
