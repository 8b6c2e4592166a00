use Rattle.std.proofs.Common.{◌≡◌, ◌<◌, List, length, map, sym, ap, ◌∙◌, subst, IsTrue}
use Rattle.std.specs.Prelude.{pos, ◌<ℤ◌, FitsSigned}
use Rattle.std.specs.Int.{w64}
use Rattle.std.proofs.lemmas.Result.{on_ok_weaker}
use Rattle.gd_scale.proofs.Group.{neutral_left}
use Rattle.gd_network.specs.Steps.{room}
use Rattle.gd_mincost.specs.Gains.{gain_at}
use Rattle.gd_mincost.specs.Residual.{Holds, IsLink}
use Rattle.gd_mincost.proofs.Table.{read, on_ok_all, pushed_meanings}
use Rattle.gd_mincost.proofs.Links.{fits_large, linked_now, link_along, link_back, some_room, holds_more, holds_last}
use Rattle.gd_mincost.proofs.residual.Residual.add.Goals as goal

pub sub-requires-clause-right : goal.sub-requires-clause-right
sub-requires-clause-right g c =
    let f = g.C.Cost.meaning in
    let within : c.args.step.arc < length (map f c.args.gains.now) = subst (λ m. c.args.step.arc < m) (sym c.requires.gains.size) c.requires.arc in
    let same : f c.index-gains-step.result ≡ gain_at g.C.Cost.scale (map f c.args.gains.now) c.args.step.arc = read f c.args.gains.now c.args.step.arc c.index-gains-step.result g.C.Cost.scale.none within c.index-gains-step.is in
    fits_large g.C.Cost.scale g.C.Cost.within g.met.C.Cost.bounded (f c.index-gains-step.result)
    (subst (λ x. IsTrue (g.C.Cost.within (pos 16) x)) (sym same) (c.requires.gains.small c.args.step.arc c.requires.arc))

pub returns-then-step-clause-sound : goal.returns-then-step-clause-sound
returns-then-step-clause-sound g c =
    let s = g.C.Cost.scale in
    let f = g.C.Cost.meaning in
    let n = c.args.network.now.arcs in
    let flow = c.args.flow.now in
    let gains : List g.C.Cost.Meaning = map f c.args.gains.now in
    let step = c.args.step in
    let old = c.args.self.now in
    let new = c.link.new.self in
    let arc = c.arc-arc.result in
    let x = c.index-gains-step.result in
    let within : step.arc < length gains = subst (λ m. step.arc < m) (sym c.requires.gains.size) c.requires.arc in
    let same : f x ≡ gain_at s gains step.arc = read f c.args.gains.now step.arc x s.none within c.index-gains-step.is in
    let fits : FitsSigned w64 c.room.result = record { sfits = c.room.type_inv } in
    let some : pos 0 <ℤ room n flow step = subst (λ z. pos 0 <ℤ z) c.room.ensures (some_room c.room.result fits c.if-room-le0.false) in
    let gain : f c.sub.result ≡ s.minus (gain_at s gains step.arc) =
    c.sub.ensures ∙ ap (λ z. s.plus z (s.minus (f x))) c.zero.ensures ∙ neutral_left s g.met.C.Cost.lawful (s.minus (f x)) ∙ ap s.minus same in
    let link : IsLink s n flow gains step arc.to arc.from (f c.sub.result) = link_back s n flow gains step arc (f c.sub.result) c.requires.arc c.arc-arc.ensures some c.if-step.true gain in
    on_ok_all c.link.result c.link.ensures.from c.link.ensures.to c.link.ensures.gain c.link.ensures.steps (λ from to gain_is steps.
    linked_now s n flow gains old.links.from.items old.links.to.items (map f old.links.gain.items) old.steps.items arc.to arc.from (f c.sub.result) step new.links.from.items new.links.to.items (map f new.links.gain.items) new.steps.items
    from to (pushed_meanings f old.links.gain.items new.links.gain.items c.sub.result gain_is) steps c.requires.sound link)

pub returns-then-step-clause-kept : goal.returns-then-step-clause-kept
returns-then-step-clause-kept g c = on_ok_weaker c.link.result (λ e other h. subst (λ xs. Holds xs other) (sym e) (holds_more c.args.self.now.steps.items c.args.step other h)) c.link.ensures.steps

pub returns-then-step-clause-added : goal.returns-then-step-clause-added
returns-then-step-clause-added g c = on_ok_weaker c.link.result (λ e has. subst (λ xs. Holds xs c.args.step) (sym e) (holds_last c.args.self.now.steps.items c.args.step)) c.link.ensures.steps

pub returns-else-step-clause-sound : goal.returns-else-step-clause-sound
returns-else-step-clause-sound g c =
    let s = g.C.Cost.scale in
    let f = g.C.Cost.meaning in
    let n = c.args.network.now.arcs in
    let flow = c.args.flow.now in
    let gains : List g.C.Cost.Meaning = map f c.args.gains.now in
    let step = c.args.step in
    let old = c.args.self.now in
    let new = c.link-else-step.new.self in
    let arc = c.arc-arc.result in
    let x = c.index-gains-step.result in
    let within : step.arc < length gains = subst (λ m. step.arc < m) (sym c.requires.gains.size) c.requires.arc in
    let same : f x ≡ gain_at s gains step.arc = read f c.args.gains.now step.arc x s.none within c.index-gains-step.is in
    let fits : FitsSigned w64 c.room.result = record { sfits = c.room.type_inv } in
    let some : pos 0 <ℤ room n flow step = subst (λ z. pos 0 <ℤ z) c.room.ensures (some_room c.room.result fits c.if-room-le0.false) in
    let link : IsLink s n flow gains step arc.from arc.to (f x) = link_along s n flow gains step arc (f x) c.requires.arc c.arc-arc.ensures some c.if-step.false same in
    let told = c.link-else-step.ensures in
    on_ok_all c.link-else-step.result told.from told.to told.gain told.steps (λ from to gain_is steps.
    linked_now s n flow gains old.links.from.items old.links.to.items (map f old.links.gain.items) old.steps.items arc.from arc.to (f x) step new.links.from.items new.links.to.items (map f new.links.gain.items) new.steps.items
    from to (pushed_meanings f old.links.gain.items new.links.gain.items x gain_is) steps c.requires.sound link)

pub returns-else-step-clause-kept : goal.returns-else-step-clause-kept
returns-else-step-clause-kept g c = on_ok_weaker c.link-else-step.result (λ e other h. subst (λ xs. Holds xs other) (sym e) (holds_more c.args.self.now.steps.items c.args.step other h)) c.link-else-step.ensures.steps

pub returns-else-step-clause-added : goal.returns-else-step-clause-added
returns-else-step-clause-added g c = on_ok_weaker c.link-else-step.result (λ e has. subst (λ xs. Holds xs c.args.step) (sym e) (holds_last c.args.self.now.steps.items c.args.step)) c.link-else-step.ensures.steps
