use Rattle.std.proofs.Common.{map}
use Rattle.gd_mincost.specs.Residual.{IsSound, Keeps}
use Rattle.gd_mincost.proofs.residual.Residual.add_elements.Given as goal

abbrev pub invariant-loop-arc : goal.invariant-loop-arc
invariant-loop-arc g l = record {
  sound : IsSound g.C.Cost.scale g.C.Cost.meaning l.network.arcs l.flow (map g.C.Cost.meaning l.gains) l.self;
  kept : Keeps l.initial.self.steps.items l.self.steps.items;
}
