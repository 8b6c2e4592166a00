use Rattle.gd_mincost.proofs.Links.{both_ways}
use Rattle.gd_mincost.proofs.residual.Residual.add_arc.Goals as goal

pub returns-clause-added : goal.returns-clause-added
returns-clause-added g c =
    both_ways c.args.network.now.arcs c.args.flow.now c.args.arc c.add.new.self.steps.items c.add-2.new.self.steps.items
    c.in_ok-add.ensures.added c.in_ok-add-2.ensures.kept c.in_ok-add-2.ensures.added
