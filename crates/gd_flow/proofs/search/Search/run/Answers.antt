use Rattle.std.proofs.Common.{◌<◌, ◌≤◌, length, sym, ◌∙◌, false, arith}
use Rattle.std.proofs.lemmas.Bool.{false≢true}
use Rattle.std.proofs.lemmas.List.{get_or_read}
use Rattle.gd_flow.proofs.Reach.{search_started}
use Rattle.gd_flow.proofs.search.Search.run.Goals as goal
use Rattle.gd_flow.proofs.search.Search.run.Goals.{then-loop-at-test+else-not-index, else-loop-at-test}

pub loop-at-init : goal.loop-at-init
loop-at-init c =
    let e = c.in_ok-search.ensures in
    record {
      search = search_started c.args.network.now c.args.flow.now c.in_ok-search.search c.args.from c.requires.from e.first.0 e.first.1 (rw (sym c.node_count.ensures) e.marks);
      first = e.first.1;
      tried = λ j step h. absurd (omega arith);
      within = omega arith;
    }

pub returns-clause-tried : goal.returns-clause-tried
returns-clause-tried c = λ out. elim c.loop-at-test.branch [
  | then-loop-at-test+else-not-index w ↦
      let inv = c.loop-at.invariant in
      let within : c.args.to < length c.loop-at.search.marks.items = rw inv.search.size c.requires.to in
      absurd (false≢true (sym out ∙ sym (get_or_read c.loop-at.search.marks.items c.args.to w.index.result.now within w.index.ensures false) ∙ w.if-not-index.false))
  | else-loop-at-test w ↦
      let inv = c.loop-at.invariant in
      let e : length c.loop-at.search.finds.items ≤ c.loop-at.at = omega (arith, w.loop-at-test.false, c.len.ensures, c.loop-at.search.finds.ok.0) in
      λ j step h. inv.tried j step (omega (arith, e, h))
]
