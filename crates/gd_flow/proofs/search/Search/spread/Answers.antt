use Rattle.std.proofs.Common.{◌≡◌, ◌<◌, ◌≤◌, length, get_or, sym, ◌∙◌, ap, subst, true, false, arith, inl, inr}
use Rattle.std.proofs.lemmas.Bool.{cases_lt}
use Rattle.std.proofs.lemmas.List.{get_or_read}
use Rattle.gd_network.specs.declared.walks.Step.{Step}
use Rattle.gd_flow.specs.declared.search.Find.{Find}
use Rattle.gd_flow.specs.Search.{no_find, IsTried}
use Rattle.gd_flow.proofs.Reach.{marked_past, grows_on, tried_on}
use Rattle.gd_flow.proofs.Linking.{links_within, links_all, both_ways}
use Rattle.gd_flow.proofs.search.Search.spread.Goals as goal

pub links-number-items-requires : goal.links-number-items-requires
links-number-items-requires c =
    let s = c.requires.search in
    let found = get_or_read c.args.self.now.finds.items c.args.at c.index.result.now c.requires.at c.index.ensures no_find in
    subst (λ m. c.index.result.now.node < m) s.size (marked_past c.args.self.now.marks.items c.index.result.now.node (subst (λ (f : Find). get_or c.args.self.now.marks.items f.node false ≡ true) (sym found) (s.marked c.args.at c.requires.at)))

pub take-requires-clause-arc : goal.take-requires-clause-arc
take-requires-clause-arc c = rw c.links-number-items.ensures (links_within c.args.network.now.arcs c.index.result.now.node c.loop-number.number-index (rw (sym c.links-number-items.ensures) c.loop-number-test.true))

pub take-requires-in-loop-number-clause-arc : goal.take-requires-in-loop-number-clause-arc
take-requires-in-loop-number-clause-arc c = rw c.links-number-items.ensures (links_within c.args.network.now.arcs c.index.result.now.node c.loop-number.number-index (rw (sym c.links-number-items.ensures) c.loop-number-test.true))

pub loop-number-preserved : goal.loop-number-preserved
loop-number-preserved c =
    let n = c.args.network.now.arcs in
    let flow = c.args.flow.now in
    let inv = c.loop-number.invariant in
    let first = c.in_ok-take.ensures in
    let second = c.in_ok-take-2.ensures in
    let before = c.loop-number.self in
    let between = c.take.new.self in
    let after = c.take-in-loop-number.new.self in
    let both = grows_on before between after first.grows second.grows in
    let found = get_or_read c.args.self.now.finds.items c.args.at c.index.result.now c.requires.at c.index.ensures no_find in
    let one = inv.grows.same c.args.at c.requires.at ∙ sym found in
    let two = first.grows.same c.args.at (let a = inv.grows.longer in let b = c.requires.at in omega arith) ∙ one in
    record {
      search = second.search;
      grows = grows_on c.args.self.now before after inv.grows both;
      tried = λ k step h e. elim (cases_lt k c.loop-number.number-index) [
        | inl g ↦ tried_on n flow before after c.index.result.now.node step both (inv.tried k step g e)
        | inr g ↦
            let same : k ≡ c.loop-number.number-index = omega arith in
            let along : Step = record { arc = get_or c.links-number-items.result.now c.loop-number.number-index 0; back = false } in
            let back : Step = record { arc = get_or c.links-number-items.result.now c.loop-number.number-index 0; back = true } in
            both_ways (λ t. IsTried n flow after.marks.items c.index.result.now.node t) step (get_or c.links-number-items.result.now c.loop-number.number-index 0) (e ∙ ap (λ i. get_or c.links-number-items.result.now i 0) same)
            (tried_on n flow between after c.index.result.now.node along second.grows (subst (λ (f : Find). IsTried n flow between.marks.items f.node along) one first.tried))
            (subst (λ (f : Find). IsTried n flow after.marks.items f.node back) two second.tried)
      ];
    }

pub returns-clause-tried : goal.returns-clause-tried
returns-clause-tried c = λ step h starts has_room.
    let n = c.args.network.now.arcs in
    let found = get_or_read c.args.self.now.finds.items c.args.at c.index.result.now c.requires.at c.index.ensures no_find in
    let here = starts ∙ ap (λ (f : Find). f.node) (sym found) in
    let at = links_all n c.index.result.now.node step h here in
    let items = c.links-number-items.ensures in
    let ended : length c.links-number-items.result.now ≤ c.loop-number.number-index = omega arith in
    c.loop-number.invariant.tried at.0 step (let w : at.0 < length c.links-number-items.result.now = rw items at.1 in omega arith) (sym (rw items at.2)) here has_room
