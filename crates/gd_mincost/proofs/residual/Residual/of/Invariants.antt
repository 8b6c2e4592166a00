use Rattle.std.proofs.Common.{map}
use Rattle.gd_mincost.specs.Residual.{IsSound, IsWhole}
use Rattle.gd_mincost.proofs.residual.Residual.of.Given as goal

abbrev pub invariant-loop-arc : goal.invariant-loop-arc
invariant-loop-arc g l = record {
  sound : IsSound g.C.Cost.scale g.C.Cost.meaning l.network.arcs l.flow (map g.C.Cost.meaning l.gains) l.residual;
  whole : IsWhole l.network.arcs l.flow l.arc l.residual.steps.items;
}
