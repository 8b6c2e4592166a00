use Rattle.gd_system.proofs.NamedEnds.{told_route, told_parted}
use Rattle.gd_system.proofs.route.routes_are.Goals as goal

pub returns-clause-one : goal.returns-clause-one
returns-clause-one c = λ p origin dest ends s told. told_route p s origin dest ends told

pub returns-clause-none : goal.returns-clause-none
returns-clause-none c = λ p origin dest s told. told_parted p s origin dest told
