use Rattle.gd_mincost.proofs.Links.{whole_more}
use Rattle.gd_mincost.proofs.residual.Residual.of.Goals as goal

pub loop-arc-preserved : goal.loop-arc-preserved
loop-arc-preserved g c = record {
  sound = c.in_ok-add_arc.ensures.sound;
  whole = whole_more c.args.network.now.arcs c.args.flow.now c.loop-arc.arc c.loop-arc.residual.steps.items c.add_arc.new.self.steps.items
      c.loop-arc.invariant.whole c.in_ok-add_arc.ensures.kept c.in_ok-add_arc.ensures.added;
}
