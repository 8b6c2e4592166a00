use Rattle.gd_tree.proofs.Directions.{routes}
use Rattle.gd_tree.proofs.routes_are_walks.Goals as goal

pub returns : goal.returns
returns c = routes
