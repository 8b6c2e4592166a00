use Rattle.std.proofs.Common.{◌≡◌, ◌<◌, List, length, map, sym, subst, to_z, of_z, ◌∙◌, arith}
use Rattle.std.specs.Prelude.{ℤ, FitsSigned}
use Rattle.std.proofs.lemmas.Int.{ints, to_z-of_z}
use Rattle.std.specs.Int.{w64}
use Rattle.gd_network.specs.declared.walks.Step.{Step}
use Rattle.gd_network.specs.Steps.{AreSteps}
use Rattle.gd_labels.specs.Links.{node_at}
use Rattle.gd_mincost.specs.ClosedWalks.{steps_along}
use Rattle.gd_mincost.proofs.LinkWalks.{CanPush, can_push, along_is, along_gains, along_follows, trail_in, are_steps}
use Rattle.gd_mincost.proofs.Value.{push_rises}
use Rattle.gd_mincost.proofs.walk.push_closed.Goals as goal

pub steps_along-requires : goal.steps_along-requires
steps_along-requires g c = λ k h.
    let r = c.args.residual.now in
    let w = c.requires.closed in
    subst (λ (xs : List Step). node_at c.args.walk.now k < length xs) (sym c.deref.ensures.value)
    (subst (λ m. node_at c.args.walk.now k < m) (sym c.requires.sound.step_count) (trail_in r.links.from.items r.links.to.items w.node w.node c.args.walk.now w.closed k h))

pub least_room-amount-requires-clause-steps : goal.least_room-amount-requires-clause-steps
least_room-amount-requires-clause-steps g c =
    let n = c.args.network.now.arcs in
    let r = c.args.residual.now in
    let w = c.requires.closed in
    let is : c.deref-2.result.now ≡ steps_along r.steps.items c.args.walk.now = along_is r.steps.items c.deref.result.now c.args.walk.now c.in_ok-along.along.items c.deref-2.result.now c.deref.ensures.value c.in_ok-along.ensures c.deref-2.ensures.value in
    subst (AreSteps n) (sym is)
    (are_steps g.C.Cost.scale n c.args.flow.now (map g.C.Cost.meaning c.args.gains.now) r.links.from.items r.links.to.items (map g.C.Cost.meaning r.links.gain.items) r.steps.items c.requires.sound w.node w.node c.args.walk.now w.closed)

can : (g : _) (c : goal.After-deref-3 g) → CanPush c.args.network.now.arcs c.args.flow.now c.deref-3.result.now (to_z w64 (of_z w64 c.least_room-amount.result))
can g c =
    let n = c.args.network.now.arcs in
    let flow = c.args.flow.now in
    let r = c.args.residual.now in
    let z : ℤ = c.least_room-amount.result in
    let is : c.deref-3.result.now ≡ steps_along r.steps.items c.args.walk.now = along_is r.steps.items c.deref.result.now c.args.walk.now c.in_ok-along.along.items c.deref-3.result.now c.deref.ensures.value c.in_ok-along.ensures c.deref-3.ensures.value in
    let fits : FitsSigned w64 z = record { sfits = c.least_room-amount.type_inv } in
    can_push g.C.Cost.scale n flow (map g.C.Cost.meaning c.args.gains.now) r.links.from.items r.links.to.items (map g.C.Cost.meaning r.links.gain.items) r.steps.items c.requires.sound c.args.walk.now c.requires.closed
    c.deref-3.result.now c.deref-2.result.now (to_z w64 (of_z w64 z)) z is (c.deref-3.ensures.value ∙ sym c.deref-2.ensures.value) (to_z-of_z w64 z fits) c.least_room-amount.ensures.rooms (c.least_room-amount.ensures.some (omega (arith, ints)))

pub push-requires-clause-amount : goal.push-requires-clause-amount
push-requires-clause-amount g c = (can g c).low

pub push-requires-clause-steps : goal.push-requires-clause-steps
push-requires-clause-steps g c = (can g c).steps

pub push-requires-clause-rooms : goal.push-requires-clause-rooms
push-requires-clause-rooms g c = (can g c).rooms

pub push-requires-clause-once : goal.push-requires-clause-once
push-requires-clause-once g c = (can g c).once

pub returns-clause-feasible : goal.returns-clause-feasible
returns-clause-feasible g c =
    let n = c.args.network.now.arcs in
    let r = c.args.residual.now in
    let is : c.deref-3.result.now ≡ steps_along r.steps.items c.args.walk.now = along_is r.steps.items c.deref.result.now c.args.walk.now c.in_ok-along.along.items c.deref-3.result.now c.deref.ensures.value c.in_ok-along.ensures c.deref-3.ensures.value in
    record {
      size = c.push.ensures.size;
      balances = c.push.ensures.balances c.requires.closed.node
          (along_follows g.C.Cost.scale n c.args.flow.now (map g.C.Cost.meaning c.args.gains.now) r.links.from.items r.links.to.items (map g.C.Cost.meaning r.links.gain.items) r.steps.items c.requires.sound c.args.walk.now c.requires.closed c.deref-3.result.now is)
          c.requires.feasible.balances;
      bounds = c.push.ensures.within c.requires.feasible.bounds;
    }

pub returns-clause-rises : goal.returns-clause-rises
returns-clause-rises g c =
    let s = g.C.Cost.scale in
    let l = g.met.C.Cost.lawful in
    let n = c.args.network.now.arcs in
    let flow = c.args.flow.now in
    let gains = map g.C.Cost.meaning c.args.gains.now in
    let r = c.args.residual.now in
    let is : c.deref-3.result.now ≡ steps_along r.steps.items c.args.walk.now = along_is r.steps.items c.deref.result.now c.args.walk.now c.in_ok-along.along.items c.deref-3.result.now c.deref.ensures.value c.in_ok-along.ensures c.deref-3.ensures.value in
    let z : ℤ = c.least_room-amount.result in
    let fits : FitsSigned w64 z = record { sfits = c.least_room-amount.type_inv } in
    let can = can_push s n flow gains r.links.from.items r.links.to.items (map g.C.Cost.meaning r.links.gain.items) r.steps.items c.requires.sound c.args.walk.now c.requires.closed
    c.deref-3.result.now c.deref-2.result.now (to_z w64 (of_z w64 z)) z is (c.deref-3.ensures.value ∙ sym c.deref-2.ensures.value) (to_z-of_z w64 z fits) c.least_room-amount.ensures.rooms (c.least_room-amount.ensures.some (omega (arith, ints))) in
    push_rises s l gains n c.deref-3.result.now flow c.push.new.flow (to_z w64 (of_z w64 c.least_room-amount.result)) c.requires.feasible.size can.steps can.some
    (along_gains s l n flow gains r.links.from.items r.links.to.items (map g.C.Cost.meaning r.links.gain.items) r.steps.items c.requires.sound c.args.walk.now c.requires.closed c.deref-3.result.now is) c.push.ensures.pushed
