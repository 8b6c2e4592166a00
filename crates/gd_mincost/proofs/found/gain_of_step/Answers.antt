use Rattle.std.proofs.Common.{◌≡◌, ℕ, ◌<◌, List, Bool, length, map, cond, get_or, sym, ap, ◌∙◌, subst, IsTrue}
use Rattle.std.specs.Prelude.{ℤ, pos, true}
use Rattle.gd_scale.specs.Scale.{Scale}
use Rattle.gd_scale.specs.Laws.{IsLawful}
use Rattle.gd_scale.proofs.Group.{neutral_left}
use Rattle.gd_network.specs.declared.walks.Step.{Step}
use Rattle.gd_mincost.specs.Gains.{AreGains, gain_at, gained}
use Rattle.gd_mincost.proofs.Table.{read}
use Rattle.gd_mincost.proofs.Links.{fits_large, step_small}
use Rattle.gd_mincost.proofs.found.gain_of_step.Goals as goal

-- what is read of the table of gains
read_at : {C V : Type 0} (s : Scale V) (meaning : C → V) (within : ℤ → V → Bool) (count : ℕ) (xs : List C) (step : Step) (x : C) → AreGains s within count (map meaning xs) → step.arc < count → x ≡ get_or xs step.arc x → meaning x ≡ gain_at s (map meaning xs) step.arc
read_at s meaning within count xs step x small h is =
    read meaning xs step.arc x s.none (subst (λ m. step.arc < m) (sym small.size) h) is

back_gains : {V : Type 0} (s : Scale V) → IsLawful s → (gains : List V) (step : Step) (x none turned : V) → turned ≡ s.plus none (s.minus x) → none ≡ s.none → x ≡ gain_at s gains step.arc → step.back ≡ true → turned ≡ gained s gains step
back_gains s l gains step x none turned e f g h =
    e ∙ ap (λ z. s.plus z (s.minus x)) f ∙ neutral_left s l (s.minus x) ∙ ap s.minus g
    ∙ sym (ap (λ b. cond b (s.minus (gain_at s gains step.arc)) (gain_at s gains step.arc)) h)

pub sub-requires-clause-right : goal.sub-requires-clause-right
sub-requires-clause-right g c =
    let s = g.C.Cost.scale in
    let f = g.C.Cost.meaning in
    let same = read_at s f g.C.Cost.within (length c.args.network.now.arcs) c.args.gains.now c.args.step c.index-gains-step.result c.requires.gains c.requires.arc c.index-gains-step.is in
    fits_large s g.C.Cost.within g.met.C.Cost.bounded (f c.index-gains-step.result)
    (subst (λ x. IsTrue (g.C.Cost.within (pos 16) x)) (sym same) (c.requires.gains.small c.args.step.arc c.requires.arc))

pub returns-then-step-clause-is : goal.returns-then-step-clause-is
returns-then-step-clause-is g c =
    let s = g.C.Cost.scale in
    let f = g.C.Cost.meaning in
    let same = read_at s f g.C.Cost.within (length c.args.network.now.arcs) c.args.gains.now c.args.step c.index-gains-step.result c.requires.gains c.requires.arc c.index-gains-step.is in
    back_gains s g.met.C.Cost.lawful (map f c.args.gains.now) c.args.step (f c.index-gains-step.result) (f c.zero.result) (f c.sub.result) c.sub.ensures c.zero.ensures same c.if-step.true

pub returns-then-step-clause-fits : goal.returns-then-step-clause-fits
returns-then-step-clause-fits g c =
    let s = g.C.Cost.scale in
    let f = g.C.Cost.meaning in
    let gains = map f c.args.gains.now in
    let same = read_at s f g.C.Cost.within (length c.args.network.now.arcs) c.args.gains.now c.args.step c.index-gains-step.result c.requires.gains c.requires.arc c.index-gains-step.is in
    let is = back_gains s g.met.C.Cost.lawful gains c.args.step (f c.index-gains-step.result) (f c.zero.result) (f c.sub.result) c.sub.ensures c.zero.ensures same c.if-step.true in
    fits_large s g.C.Cost.within g.met.C.Cost.bounded (f c.sub.result)
    (subst (λ x. IsTrue (g.C.Cost.within (pos 16) x)) (sym is) (step_small s g.C.Cost.within g.met.C.Cost.bounded c.args.network.now.arcs gains c.requires.gains c.args.step c.requires.arc))

pub returns-else-step-clause-fits : goal.returns-else-step-clause-fits
returns-else-step-clause-fits g c =
    let s = g.C.Cost.scale in
    let f = g.C.Cost.meaning in
    let same = read_at s f g.C.Cost.within (length c.args.network.now.arcs) c.args.gains.now c.args.step c.index-gains-step.result c.requires.gains c.requires.arc c.index-gains-step.is in
    fits_large s g.C.Cost.within g.met.C.Cost.bounded (f c.index-gains-step.result)
    (subst (λ x. IsTrue (g.C.Cost.within (pos 16) x)) (sym same) (c.requires.gains.small c.args.step.arc c.requires.arc))
