use Rattle.std.proofs.Common.{◌≡◌, ◌<◌, ◌+◌, length, get_or, refl, sym, ◌∙◌, ap, subst, false, pos, ◌<ℤ◌, arith}
use Rattle.std.proofs.lemmas.Int.{ints, to_z-of_z}
use Rattle.std.proofs.lemmas.List.{get_or_read}
use Rattle.gd_flow.specs.declared.search.Find.{Find}
use Rattle.gd_flow.specs.Search.{no_find}
use Rattle.gd_flow.proofs.Reach.{push_search}
use Rattle.gd_flow.proofs.Linking.{head_within}
use Rattle.gd_flow.proofs.search.Search.take.Goals as goal

pub returns-clause-search : goal.returns-clause-search
returns-clause-search c =
    let old = c.args.self.now in
    let n = c.args.network.now.arcs in
    let s = c.requires.search in
    let node = c.head-node.result in
    let inside : node < length old.marks.items = subst (λ m. node < m) (sym s.size) (subst (λ v. v < length c.args.network.now.question.asked.elements + 1) (sym c.head-node.ensures) (head_within _ n c.args.step c.known.ensures.sound c.requires.arc)) in
    let unmarked : get_or old.marks.items node false ≡ false = sym (get_or_read old.marks.items node c.index-2.result.now inside c.index-2.ensures false) ∙ c.if-index.false in
    let found = get_or_read old.finds.items c.args.at c.index.result.now c.requires.at c.index.ensures no_find in
    let has : pos 0 <ℤ c.room.result = let h = c.if-room-le0.false in let fits = c.room.type_inv in grind (arith, ints, to_z-of_z) in
    push_search c.args.network.now c.args.flow.now old _ (record { node = node; step = c.args.step; before = c.args.at }) s c.in_ok-push.ensures.items refl inside unmarked
    c.requires.at c.requires.arc (sym c.tail.ensures ∙ c.if-tail-index.false ∙ ap (λ (f : Find). f.node) found) (sym c.head-node.ensures) (subst (λ z. pos 0 <ℤ z) c.room.ensures has)
