use Rattle.std.proofs.Common.{List, [], ◌∷◌, reverse, sym, subst, arith}
use Rattle.std.proofs.lemmas.List.{get_or_read, reverse-append}
use Rattle.gd_network.specs.declared.walks.Step.{Step}
use Rattle.gd_flow.specs.declared.search.Find.{Find}
use Rattle.gd_flow.specs.Search.{no_find, Closes}
use Rattle.gd_flow.proofs.WayBack.{IsBack, back_more, back_closes}
use Rattle.gd_flow.proofs.search.Search.walk_to.Goals as goal

pub loop-at-preserved : goal.loop-at-preserved
loop-at-preserved c =
    let s = c.args.self.now in
    let n = c.args.network.now.arcs in
    let flow = c.args.flow.now in
    let find = c.index-find.result.now in
    let walk = c.loop-at.walk.items in
    let found = get_or_read s.finds.items c.loop-at.at find c.loop-at.invariant.placed c.index-find.ensures no_find in
    subst (λ (ws : List Step). IsBack n flow s c.args.last find.before (reverse ws)) (sym c.in_ok-push-2.ensures.items)
    (subst (λ (ws : List Step). IsBack n flow s c.args.last find.before ws) (sym (reverse-append walk (find.step ∷ [])))
    (subst (λ (f : Find). IsBack n flow s c.args.last f.before (f.step ∷ reverse walk)) (sym found)
    (back_more c.args.network.now flow s c.args.last c.loop-at.at (reverse walk) c.requires.search c.loop-at-test.true c.loop-at.invariant)))

pub returns : goal.returns
returns c = subst (λ (ws : List Step). Closes c.args.network.now.arcs c.args.flow.now c.args.last ws) (sym c.reverse.ensures.items)
    (back_closes c.args.network.now.arcs c.args.flow.now c.args.self.now c.args.last c.loop-at.at (reverse c.loop-at.walk.items) (let h = c.loop-at-test.false in omega arith) c.loop-at.invariant)
