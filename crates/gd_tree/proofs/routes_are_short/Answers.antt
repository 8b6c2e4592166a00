use Rattle.gd_tree.proofs.Directions.{route_few}
use Rattle.gd_tree.proofs.routes_are_short.Goals as goal

pub returns : goal.returns
returns c = route_few
