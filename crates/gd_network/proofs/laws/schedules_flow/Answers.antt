use Rattle.gd_network.proofs.Balance.{flow_balances}
use Rattle.gd_network.proofs.Allowed.{flow_within}
use Rattle.gd_network.proofs.Wiring.{wired}
use Rattle.gd_network.proofs.laws.schedules_flow.Goals as goal

pub returns-clause-balances : goal.returns-clause-balances
returns-clause-balances c = λ q n x flow lines w. flow_balances q n x flow lines (wired q n w)

pub returns-clause-within : goal.returns-clause-within
returns-clause-within c = λ q n x flow w. flow_within q n x flow (wired q n w)
