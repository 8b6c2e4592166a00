use Rattle.std.proofs.Common.{◌≡◌, List, get_or, Bool, true, false, ◌∙◌, subst}
use Rattle.gd_network.specs.Flow.{IsSideOf}
use Rattle.gd_certificate.specs.Cutting.{side_of}
use Rattle.gd_network.specs.Steps.{head_of, tail_of}
use Rattle.gd_flow.proofs.Amiss.{mends_room}
use Rattle.gd_flow.proofs.ReachedCut.{unmarked, edge, short}
use Rattle.gd_flow.proofs.mending.closing.Goals as goal

pub walk_to-requires-clause-has_room : goal.walk_to-requires-clause-has_room
walk_to-requires-clause-has_room c = mends_room _ c.args.network.now.arcs c.args.flow.now c.args.step c.known.ensures.sound c.requires.arc c.requires.mends

pub returns : goal.returns
returns c =
    let l = c.args.network.now in
    let flow = c.args.flow.now in
    let step = c.args.step in
    let s = c.in_ok-search.search in
    let marks = s.marks.items in
    let e = c.in_ok-search.ensures in
    let cut = c.in_ok-cut_of-in-None.field-0 in
    let to_out : get_or marks c.tail-to.result false ≡ false = unmarked l flow s e.search c.tail-to.result c.in-None.ensures in
    let out : get_or marks (tail_of l.arcs step) false ≡ false = subst (λ v. get_or marks v false ≡ false) c.tail-to.ensures to_out in
    let in_set : get_or marks (head_of l.arcs step) false ≡ true = subst (λ v. get_or marks v false ≡ true) (e.first ∙ c.head.ensures) (e.search.marked 0 e.search.begun) in
    let side : IsSideOf l.question.asked (λ v. get_or marks v false) (side_of l.question.pipeline cut) = subst (λ (m : List Bool). IsSideOf l.question.asked (λ v. get_or m v false) (side_of l.question.pipeline cut)) c.deref.ensures.value c.in_ok-cut_of-in-None.ensures.side in (
      c.in_ok-cut_of-in-None.ensures.shaped,
      c.reached_cut.ensures.cut l.question.asked l.arcs flow (λ v. get_or marks v false) (side_of l.question.pipeline cut) step.arc c.known.ensures.question.lined c.known.ensures.network side c.requires.kept.balances
          (edge l flow s e.search (e.tried to_out)) c.requires.arc (short l.arcs flow (λ v. get_or marks v false) step c.requires.mends in_set out),
    )
