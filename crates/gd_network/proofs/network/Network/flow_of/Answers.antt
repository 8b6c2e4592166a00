use Rattle.std.proofs.Common.{◌+◌, ◌*◌, ◌<◌, length, sym, subst}
use Rattle.std.specs.Prelude.{IfOk}
use Rattle.gd_rules.specs.Schedule.{IsAllowed}
use Rattle.gd_network.specs.Beginning.{Laid, IsFirst}
use Rattle.gd_network.specs.Flow.{IsCirculation, IsWithin, IsFlowOf, IsScheduleOf}
use Rattle.gd_network.specs.Entries.{FirstFlows}
use Rattle.gd_network.proofs.Allowed.{flow_within}
use Rattle.gd_network.proofs.Balance.{flow_balances}
use Rattle.gd_network.proofs.Building.{flows_all}
use Rattle.gd_network.proofs.LineFlows.{ok_then}
use Rattle.gd_network.proofs.Networks.{schedule_back}
use Rattle.gd_network.proofs.NodeNumbers.{is_first}
use Rattle.gd_network.proofs.Wiring.{wired}
use Rattle.gd_network.proofs.network.Network.flow_of.Goals as goal

pub returns-clause-flow : goal.returns-clause-flow
returns-clause-flow c =
    let x = c.args.schedule.now in
    subst (λ (v : Laid). IfOk c.flow_of.result (IsFlowOf v.question.asked x)) c.self.view_is
    (ok_then _ _ c.flow_of.result (λ flow. flows_all c.self.inside.question.now.asked x flow) c.flow_of.ensures)

pub returns-clause-balances : goal.returns-clause-balances
returns-clause-balances c =
    let k = c.known.ensures in
    let q = c.args.self.now.question.asked in
    let n = c.args.self.now.arcs in
    let x = c.args.schedule.now in
    ok_then (IsFlowOf q x) (IsCirculation n) c.flow_of.result (λ flow. flow_balances q n x flow k.question.lined (wired q n k.network)) (returns-clause-flow c)

pub returns-clause-within : goal.returns-clause-within
returns-clause-within c =
    let k = c.known.ensures in
    let q = c.args.self.now.question.asked in
    let n = c.args.self.now.arcs in
    let x = c.args.schedule.now in
    ok_then (IsFlowOf q x) (λ flow. IsAllowed q x → IsWithin n flow) c.flow_of.result (λ flow. flow_within q n x flow (wired q n k.network)) (returns-clause-flow c)

pub returns-clause-small : goal.returns-clause-small
returns-clause-small c =
    let k = c.known.ensures in
    let q = c.args.self.now.question.asked in
    let n = c.args.self.now.arcs in
    let x = c.args.schedule.now in
    ok_then (FirstFlows q x (length q.elements + 10 * length q.lines)) (IsFirst n) c.flow_of.result
    (λ flow. is_first q n x flow k.question k.network (λ i h. c.known-2.ensures i (subst (λ m. i < m) (sym c.requires) h)))
    (subst (λ (v : Laid). IfOk c.flow_of.result (FirstFlows v.question.asked x (length v.question.asked.elements + 10 * length v.question.asked.lines))) c.self.view_is c.flow_of.ensures)

pub returns-clause-back : goal.returns-clause-back
returns-clause-back c =
    let q = c.args.self.now.question.asked in
    let x = c.args.schedule.now in
    ok_then (IsFlowOf q x) (λ flow. IsScheduleOf q flow x) c.flow_of.result (λ flow. schedule_back q x flow c.requires) (returns-clause-flow c)
