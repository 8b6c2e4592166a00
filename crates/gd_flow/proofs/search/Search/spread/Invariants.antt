use Rattle.std.proofs.Common.{◌≡◌, ℕ, ◌<◌, get_or}
use Rattle.gd_network.specs.declared.walks.Step.{Step}
use Rattle.gd_flow.specs.Search.{IsSearch, Grows, IsTried}
use Rattle.gd_flow.proofs.search.Search.spread.Given as goal

abbrev pub invariant-loop-number : goal.invariant-loop-number
invariant-loop-number l = record {
  search : IsSearch l.network l.flow l.self;
  grows : Grows l.initial.self l.self;
  tried : (k : ℕ) (step : Step) → k < l.number-index → step.arc ≡ get_or l.number-items k 0 → IsTried l.network.arcs l.flow l.self.marks.items l.node step;
}
