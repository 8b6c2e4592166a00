use Rattle.std.proofs.Common.{◌≡◌, Some, arith, rules, sym, refl}
use Rattle.std.proofs.lemmas.Bool.{false≢true}
use Rattle.gd_reconcile.specs.Fitting.{lists_of, receipt_at}
use Rattle.gd_reconcile.specs.Walking.{MayFollow}
use Rattle.gd_reconcile.proofs.Walks.{may_mark, walked_more, walked_less, walked_next, read_at, past_at}
use Rattle.gd_reconcile.proofs.disorder.walk_list.Goals as goal

pub returns-then-not-may_follow : goal.returns-then-not-may_follow
returns-then-not-may_follow c =
    let r = c.index-receipt.result.now in
    let at : receipt_at (lists_of c.args.lists.now) c.args.at c.loop-index.index ≡ Some r = read_at c.args.lists.now c.args.at c.loop-index.index c.index-lists-at.result r c.requires.within c.index-lists-at.is (omega (arith, c.len-index-end.ensures)) (search rules) in
    record {
      there = (r, at);
      before = c.loop-index.invariant.stand;
      breaks = λ is.
          let may : MayFollow c.args.history.now c.loop-index.given.items c.loop-index.last.number c.loop-index.last.length r.event c.told-told.result.now = walked_less c.args.history.now (lists_of c.args.lists.now) c.args.at c.loop-index.index c.loop-index.given.items c.loop-index.last.number c.loop-index.last.length r at c.loop-index.invariant is c.told-told.result.now (sym c.told-told.ensures) in
          false≢true (c.if-not-may_follow.ensures.1 (rw (c.as_slice.ensures.value, c.event.ensures) may));
    }

pub mark-requires : goal.mark-requires
mark-requires c =
    may_mark c.args.history.now c.loop-index.given.items c.loop-index.last.number c.loop-index.last.length c.event.result.now c.told-told.result.now c.loop-index.invariant.long
    (rw c.as_slice.ensures.value at (c.if-not-may_follow.ensures.0 refl))

pub loop-index-preserved : goal.loop-index-preserved
loop-index-preserved c =
    let r = c.index-receipt.result.now in
    let at : receipt_at (lists_of c.args.lists.now) c.args.at c.loop-index.index ≡ Some r = read_at c.args.lists.now c.args.at c.loop-index.index c.index-lists-at.result r c.requires.within c.index-lists-at.is (omega (arith, c.len-index-end.ensures)) (search rules) in
    let may : MayFollow c.args.history.now c.loop-index.given.items c.loop-index.last.number c.loop-index.last.length r.event c.told-told.result.now = rw (c.as_slice.ensures.value, c.event.ensures) at (c.if-not-may_follow.ensures.0 refl) in
    rw (c.mark.ensures, c.after-last.ensures.number, c.after-last.ensures.length) (walked_more c.args.history.now (lists_of c.args.lists.now) c.args.at c.loop-index.index c.loop-index.given.items c.loop-index.last.number c.loop-index.last.length r at c.loop-index.invariant c.told-told.result.now (sym c.told-told.ensures) may)

pub returns : goal.returns
returns c = walked_next c.args.history.now (lists_of c.args.lists.now) c.args.at c.loop-index.index c.loop-index.given.items c.loop-index.last.number c.loop-index.last.length c.loop-index.invariant (past_at c.args.lists.now c.args.at c.loop-index.index c.index-lists-at.result c.requires.within c.index-lists-at.is (omega (arith, c.len-index-end.ensures)))
