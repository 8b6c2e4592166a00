use Rattle.gd_network.proofs.Edge as Edge
use Rattle.gd_network.proofs.Marks.{side_is}
use Rattle.gd_network.proofs.Wiring.{wired}
use Rattle.gd_network.proofs.laws.reached_cut.Goals as goal

pub returns-clause-side : goal.returns-clause-side
returns-clause-side c = side_is

pub returns-clause-cut : goal.returns-clause-cut
returns-clause-cut c = λ q n flow inside side j lines w. Edge.reached_cut q n flow inside side j lines (wired q n w)
