use Rattle.std.proofs.lemmas.List.{map_push}
use Rattle.gd_labels.proofs.Roots.{roots_search, roots_push}
use Rattle.gd_labels.proofs.search.Search.start.Goals as goal

pub loop-v-preserved : goal.loop-v-preserved
loop-v-preserved g c =
    rw (c.in_ok-push.ensures.items, c.in_ok-push-2.ensures.items, c.in_ok-push-3.ensures.items, c.in_ok-push-4.ensures.items, c.in_ok-push-5.ensures.items, map_push g.C.Cost.meaning c.loop-v.search.label.items c.zero.result)
    (roots_push c.loop-v.v _ _ _ _ _ _ c.loop-v.invariant c.zero.ensures)

pub returns-clause-search : goal.returns-clause-search
returns-clause-search g c = λ links. roots_search g.met.C.Cost.lawful g.met.C.Cost.bounded _ _ _ _ _ _ _ _ _ c.loop-v.invariant
