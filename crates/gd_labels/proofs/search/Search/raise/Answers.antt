use Rattle.std.proofs.Common.{rules}
use Rattle.std.proofs.lemmas.List.{map-set}
use Rattle.gd_labels.proofs.Raise.{raise_keeps, raise_slack}
use Rattle.gd_labels.proofs.search.Search.raise.Goals as goal

pub returns-clause-search : goal.returns-clause-search
returns-clause-search g c =
    let m = g.met.C.Cost in
    rw (c.in_ok-push.ensures.items, c.in_ok-push-2.ensures.items, c.in_ok-push-3.ensures.items, map-set g.C.Cost.meaning c.args.self.now.label.items c.index-end.result.now c.reached-value.result)
    (raise_keeps m.lawful m.bounded c.requires.search c.requires.links c.args.i c.requires.link
    _ _ _ _ _ c.index-start.ensures c.index-end.ensures c.index.ensures c.reached-value.ensures (search rules)
    c.requires.improves c.requires.avoids)

pub returns-clause-rises : goal.returns-clause-rises
returns-clause-rises g c =
    let m = g.met.C.Cost in
    rw (map-set g.C.Cost.meaning c.args.self.now.label.items c.index-end.result.now c.reached-value.result)
    (raise_slack m.lawful m.bounded c.requires.search c.requires.links c.args.i c.requires.link
    _ _ _ c.len-event.result _ c.index-start.ensures c.index-end.ensures c.index.ensures c.reached-value.ensures (search rules)
    c.requires.improves c.requires.avoids m.ranked)
