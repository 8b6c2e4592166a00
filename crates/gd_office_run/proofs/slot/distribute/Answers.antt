use Rattle.std.proofs.Common.{◌≡◌, [], ◌++◌, drop, sym, ap, ◌∙◌, arith, get_or}
use Rattle.std.proofs.lemmas.List.{append-nil, nil_from_length}
use Rattle.std.specs.Vec.Iter.{into_iter_items}
use Rattle.gd_office_run.specs.Picking.{pick}
use Rattle.gd_office_run.proofs.Picking.{pick_none}
use Rattle.gd_office_run.proofs.slot.distribute.Goals as goal

pub returns : goal.returns
returns g c =
    let end : into_iter_items c.loop-item.item-iterator ≡ [] =
    let s = c.in-None.ensures.steps.0 in let o = c.loop-item.item-iterator.rest.ok in nil_from_length (into_iter_items c.loop-item.item-iterator) (omega arith) in (
      c.loop-item.invariant.same,
      λ k d lt.
          let none : pick k (drop c.loop-item.at c.args.rows.now) (into_iter_items c.loop-item.item-iterator) ≡ [] =
          ap (λ xs. pick k (drop c.loop-item.at c.args.rows.now) xs) end ∙ pick_none (drop c.loop-item.at c.args.rows.now) k in
          sym (append-nil (get_or c.loop-item.holding.items k d).items)
          ∙ (ap (λ t. (get_or c.loop-item.holding.items k d).items ++ t) (sym none) ∙ c.loop-item.invariant.more k d lt),
    )
