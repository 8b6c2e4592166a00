use Rattle.gd_network.proofs.NodeNumbers.{ordered}
use Rattle.gd_network.proofs.laws.elements_bring.Goals as goal

pub returns : goal.returns
returns c = ordered
