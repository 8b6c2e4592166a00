use Rattle.std.proofs.Common.{◌≡◌, ◌<◌, ◌<ℤ◌, pos, List, length, get_or, ℤ, to_z, of_z, w64, false, sym, subst, arith}
use Rattle.std.proofs.lemmas.Int.{ints, to_z-of_z}
use Rattle.gd_network.specs.declared.walks.Step.{Step}
use Rattle.gd_network.specs.Steps.{HasRooms, Follows, Mends}
use Rattle.gd_flow.specs.Search.{Closes}
use Rattle.gd_flow.specs.Ways.{IsWay}
use Rattle.gd_flow.specs.declared.mending.Way.{Way}
use Rattle.gd_flow.proofs.Amiss.{still_kept, fault_some}
use Rattle.gd_flow.proofs.mending.mend.Goals as goal

pub push-requires-clause-rooms : goal.push-requires-clause-rooms
push-requires-clause-rooms c =
    let n = c.args.network.now.arcs in
    let flow = c.loop-fault.flow in
    let amount : ℤ = c.least_room-amount.result in
    let read : to_z w64 (of_z w64 amount) ≡ amount = let fits = c.least_room-amount.type_inv in to_z-of_z w64 amount (grind (arith, ints)) in
    subst (λ (ws : List Step). HasRooms n flow ws (to_z w64 (of_z w64 amount))) (sym c.deref-in-Walk.ensures.value)
    (subst (HasRooms n flow c.in-Walk.walk.items) (sym read) (subst (λ (ws : List Step). HasRooms n flow ws amount) c.deref.ensures.value c.least_room-amount.ensures.rooms))

pub loop-fault-smaller : goal.loop-fault-smaller
loop-fault-smaller c =
    let n = c.args.network.now.arcs in
    let flow = c.loop-fault.flow in
    let step = c.in-Some.fault.step in
    let closes : Closes n flow step c.in-Walk.walk.items = subst (λ (w : Way). IsWay c.args.network.now flow step w) c.in-Walk.is c.in_ok-walk.ensures in
    let mends : Mends n flow step = c.in-Some.ensures.1 in
    let value = c.deref-in-Walk.ensures.value in
    let amount : ℤ = c.least_room-amount.result in
    let read : to_z w64 (of_z w64 amount) ≡ amount = let fits = c.least_room-amount.type_inv in to_z-of_z w64 amount (grind (arith, ints)) in
    let none : Step = record { arc = 0; back = false } in
    c.push.ensures.mends closes.place none
    (subst (λ (ws : List Step). closes.place < length ws) (sym value) closes.within)
    (subst (λ z. pos 0 <ℤ z) (sym read) (c.least_room-amount.ensures.some (fault_some n flow step c.args.number c.in-Some.fault.amount c.loop-fault.invariant.kept c.requires.arc c.in-Some.ensures.0 mends c.in-Some.ensures.2) (subst (λ (ws : List Step). HasRooms n flow ws (pos 1)) (sym c.deref.ensures.value) closes.rooms)))
    (subst (λ (ws : List Step). Mends n flow (get_or ws closes.place none)) (sym value) (subst (Mends n flow) (sym (closes.taken none)) mends))

pub loop-fault-preserved : goal.loop-fault-preserved
loop-fault-preserved c =
    let n = c.args.network.now.arcs in
    let flow = c.loop-fault.flow in
    let inv = c.loop-fault.invariant in
    let step = c.in-Some.fault.step in
    let closes : Closes n flow step c.in-Walk.walk.items = subst (λ (w : Way). IsWay c.args.network.now flow step w) c.in-Walk.is c.in_ok-walk.ensures in
    let follows = subst (λ (ws : List Step). Follows n closes.node ws closes.node) (sym c.deref-in-Walk.ensures.value) closes.follows in
    record {
      kept = still_kept n flow c.push.new.flow c.push.ensures.size (c.push.ensures.balances closes.node follows inv.kept.balances) c.push.ensures.nearer inv.kept;
      nearer = λ a h. let now = c.push.ensures.nearer a h in let before = inv.nearer a h in omega (arith, now, before);
    }
