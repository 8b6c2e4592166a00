use Rattle.gd_network.proofs.Allowed.{schedule_allowed}
use Rattle.gd_network.proofs.Wiring.{wired}
use Rattle.gd_network.proofs.laws.flows_schedule.Goals as goal

pub returns : goal.returns
returns c = λ q n flow x lines grown w. schedule_allowed q n flow x lines grown (wired q n w)
