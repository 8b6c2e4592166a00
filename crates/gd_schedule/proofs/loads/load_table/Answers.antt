use Rattle.std.proofs.Common.{◌≡◌, ◌-◌, length, subst, sym, arith}
use Rattle.gd_schedule.specs.Surplus.{IsPassedOn}
use Rattle.gd_schedule.proofs.Surplus.{none_passed, all_passed}
use Rattle.gd_schedule.proofs.loads.load_table.Goals as goal

pub loop-done-init : goal.loop-done-init
loop-done-init c =
    let q = c.args.question.now.asked in
    let all : length q.elements ≡ length q.elements - 0 = omega arith in
    let zeros = c.in_ok-table.ensures.items_if_clones_equal (λ y h. h) in
    subst (λ n. IsPassedOn q c.args.schedule.now n c.in_ok-surplus.surplus.items c.in_ok-table.table.items) all
    (subst (IsPassedOn q c.args.schedule.now (length q.elements) c.in_ok-surplus.surplus.items) (sym zeros)
    (none_passed q c.args.schedule.now c.in_ok-surplus.surplus.items _ c.element_count-count.ensures c.in_ok-surplus.ensures))

pub returns : goal.returns
returns c =
    let q = c.args.question.now.asked in
    let count = c.element_count-count.ensures in
    let none : length q.elements - c.loop-done.done ≡ 0 = omega (arith, count, c.loop-done-test.false) in
    all_passed q c.args.schedule.now c.loop-done.surplus.items c.loop-done.table.items c.known.ensures.lined c.placed.ensures.brings
    (subst (λ n. IsPassedOn q c.args.schedule.now n c.loop-done.surplus.items c.loop-done.table.items) none c.loop-done.invariant)
