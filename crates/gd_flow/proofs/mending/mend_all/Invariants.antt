use Rattle.std.proofs.Common.{ℕ, ◌<◌}
use Rattle.gd_flow.specs.Keeping.{IsKept, Holds}
use Rattle.gd_flow.proofs.mending.mend_all.Given as goal

abbrev pub invariant-loop-number : goal.invariant-loop-number
invariant-loop-number l = record {
  kept : IsKept l.network.arcs l.flow;
  held : (a : ℕ) → a < l.number → Holds l.network.arcs l.flow a;
}
