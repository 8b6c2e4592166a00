use Rattle.std.proofs.Common.{◌≡◌, ◌<ℤ◌, List, pos, to_z, to_z-of_z, sym, ◌∙◌, ap, subst, arith}
use Rattle.std.proofs.lemmas.List.{take_all}
use Rattle.std.specs.Int.{w64}
use Rattle.gd_network.specs.declared.walks.Step.{Step}
use Rattle.gd_network.specs.Steps.{least_room, HasRooms}
use Rattle.gd_network.proofs.StepRooms.{has_rooms, some_least}
use Rattle.gd_network.proofs.rooms.least_room.Goals as goal

is : (c : goal.After-loop-step) → to_z w64 c.loop-step.least-bits ≡ least_room c.args.network.now.arcs c.args.flow.now c.args.walk.now c.args.most
is c =
    let n = c.args.network.now.arcs in
    let flow = c.args.flow.now in
    let past = c.loop-step-test.false in
    let known = c.loop-step.invariant in
    (simp (to_z-of_z, c.ranges.most) at known) ∙ ap (λ (walk : List Step). least_room n flow walk c.args.most) (take_all c.loop-step.step-index c.args.walk.now (omega (arith, past)))

pub returns-clause-rooms : goal.returns-clause-rooms
returns-clause-rooms c =
    let n = c.args.network.now.arcs in
    let flow = c.args.flow.now in
    let walk = c.args.walk.now in
    subst (HasRooms n flow walk) (sym (is c)) (has_rooms n flow walk c.args.most)

pub returns-clause-some : goal.returns-clause-some
returns-clause-some c = λ some rooms.
    subst (λ z. pos 0 <ℤ z) (sym (is c)) (some_least c.args.network.now.arcs c.args.flow.now c.args.walk.now c.args.most some rooms)
