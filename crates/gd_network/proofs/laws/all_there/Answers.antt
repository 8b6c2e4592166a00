use Rattle.gd_network.proofs.Networks.{network_of, network_is, flow_of, flow_is, schedule_of, schedule_is, schedule_back}
use Rattle.gd_network.proofs.Wiring.{wired}
use Rattle.gd_network.proofs.laws.all_there.Goals as goal

pub returns-clause-network : goal.returns-clause-network
returns-clause-network c = λ q. (network_of q, network_is q)

pub returns-clause-flow : goal.returns-clause-flow
returns-clause-flow c = λ q x. (flow_of q x, flow_is q x)

pub returns-clause-back : goal.returns-clause-back
returns-clause-back c = schedule_back

pub returns-clause-schedule : goal.returns-clause-schedule
returns-clause-schedule c = λ q n flow w within. (schedule_of q flow, schedule_is q n flow (wired q n w) within)
