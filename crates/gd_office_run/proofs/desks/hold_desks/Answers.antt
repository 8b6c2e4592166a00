use Rattle.std.proofs.Common.{◌≡◌, [], ◌∷◌, arith, rules}
use Rattle.std.proofs.lemmas.List.{nil_from_length}
use Rattle.std.specs.Vec.Iter.{into_iter_items}
use Rattle.gd_office_run.specs.Shares.{share_at, plus}
use Rattle.gd_office_run.specs.RunShares.{of_desks}
use Rattle.gd_office_run.proofs.RunShares.{desk_step, desk_end}
use Rattle.gd_office_run.proofs.desks.hold_desks.Goals as goal

pub loop-desk-preserved-in_ok-take_desk : goal.loop-desk-preserved-in_ok-take_desk
loop-desk-preserved-in_ok-take_desk g c =
    let step = c.in-Some.ensures.steps in
    let at = c.loop-desk.at in let left = c.loop-desk.invariant.left in
    let items : into_iter_items c.loop-desk.desk-iterator ≡ c.in-Some.desk ∷ into_iter_items c.next.new.self = search rules in
    record {
      left = search rules;
      holding = λ slots of.
          let was = c.loop-desk.invariant.holding slots of in let took = c.in_ok-take_desk.ensures slots was.0 in (
            took.0,
            λ k below. desk_step (share_at c.loop-desk.holding k) (share_at c.take_desk.new.self k)
                (plus (share_at c.args.holding.now k) (of_desks 0 c.args.desks.items k)) at k (into_iter_items c.loop-desk.desk-iterator)
                (into_iter_items c.next.new.self) c.in-Some.desk items (was.1 k below) (took.1 k below),
          );
    }

pub loop-desk-preserved : goal.loop-desk-preserved
loop-desk-preserved g c =
    let step = c.in-Some.ensures.steps in
    let at = c.loop-desk.at in let left = c.loop-desk.invariant.left in
    let items : into_iter_items c.loop-desk.desk-iterator ≡ c.in-Some.desk ∷ into_iter_items c.next.new.self = search rules in
    record {
      left = search rules;
      holding = λ slots of.
          let was = c.loop-desk.invariant.holding slots of in let took = c.in_ok-take_desk.ensures slots was.0 in (
            took.0,
            λ k below. desk_step (share_at c.loop-desk.holding k) (share_at c.take_desk.new.self k)
                (plus (share_at c.args.holding.now k) (of_desks 0 c.args.desks.items k)) at k (into_iter_items c.loop-desk.desk-iterator)
                (into_iter_items c.next.new.self) c.in-Some.desk items (was.1 k below) (took.1 k below),
          );
    }

pub returns : goal.returns
returns g c slots of =
    let end : into_iter_items c.loop-desk.desk-iterator ≡ [] =
    let s = c.in-None.ensures.steps.0 in let o = c.loop-desk.desk-iterator.rest.ok in nil_from_length (into_iter_items c.loop-desk.desk-iterator) (omega arith) in
    let was = c.loop-desk.invariant.holding slots of in (
      was.0,
      λ k below. desk_end (share_at c.loop-desk.holding k) (plus (share_at c.args.holding.now k) (of_desks 0 c.args.desks.items k))
          c.loop-desk.at k (into_iter_items c.loop-desk.desk-iterator) end (was.1 k below),
    )
