use Rattle.std.proofs.Common.{◌≡◌, ℕ, ◌<◌, length, subst}
use Rattle.std.specs.Prelude.{IfOk}
use Rattle.gd_rules.specs.Schedule.{IsAllowed, load}
use Rattle.gd_network.specs.Beginning.{Laid}
use Rattle.gd_network.specs.Flow.{flow_at, IsScheduleOf}
use Rattle.gd_network.proofs.Allowed.{schedule_allowed}
use Rattle.gd_network.proofs.Balance.{loads_are}
use Rattle.gd_network.proofs.LineFlows.{ok_then}
use Rattle.gd_network.proofs.Wiring.{wired}
use Rattle.gd_network.proofs.network.Network.schedule_of.Goals as goal

pub returns-clause-schedule : goal.returns-clause-schedule
returns-clause-schedule c = subst (λ (v : Laid). IfOk c.schedule_of.result (IsScheduleOf v.question.asked c.args.flow.now)) c.self.view_is (subst (λ f. IfOk c.schedule_of.result (IsScheduleOf c.self.inside.question.now.asked f)) c.amounts.ensures c.schedule_of.ensures)

pub returns-clause-allowed : goal.returns-clause-allowed
returns-clause-allowed c =
    let k = c.known.ensures in
    let q = c.args.self.now.question.asked in
    let n = c.args.self.now.arcs in
    let flow = c.args.flow.now in
    ok_then (IsScheduleOf q flow) (IsAllowed q) c.schedule_of.result
    (λ x. schedule_allowed q n flow x k.question.lined k.grown (wired q n k.network) c.requires.balances c.requires.within) (returns-clause-schedule c)

pub returns-clause-loads : goal.returns-clause-loads
returns-clause-loads c =
    let k = c.known.ensures in
    let q = c.args.self.now.question.asked in
    let n = c.args.self.now.arcs in
    let flow = c.args.flow.now in
    ok_then (IsScheduleOf q flow) (λ x. (e : ℕ) → e < length q.elements → load q x e ≡ flow_at flow e) c.schedule_of.result
    (λ x. loads_are q n flow x k.question.lined k.grown (wired q n k.network) c.requires.balances) (returns-clause-schedule c)
