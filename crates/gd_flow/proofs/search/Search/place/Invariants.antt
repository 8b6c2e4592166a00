use Rattle.std.proofs.Common.{ℕ, ◌<◌, ◌≢◌}
use Rattle.gd_flow.specs.Search.{find_at}
use Rattle.gd_flow.proofs.search.Search.place.Given as goal

abbrev pub invariant-loop-at : goal.invariant-loop-at
invariant-loop-at l = (k : ℕ) → k < l.at → (find_at l.self k).node ≢ l.node
