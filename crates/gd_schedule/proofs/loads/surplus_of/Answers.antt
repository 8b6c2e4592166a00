use Rattle.std.proofs.Common.{subst, sym, ap, ◌+◌}
use Rattle.gd_schedule.specs.Surplus.{IsSurplus}
use Rattle.gd_schedule.proofs.Surplus.{no_surplus}
use Rattle.gd_schedule.proofs.loads.surplus_of.Goals as goal

pub loop-line-init : goal.loop-line-init
loop-line-init c =
    let q = c.args.question.now.asked in
    subst (IsSurplus q c.args.schedule.now 0) (sym (c.in_ok-surplus.ensures.items_if_clones_equal (λ y h. h))) (no_surplus q c.args.schedule.now _ (ap (λ n. n + 1) c.element_count.ensures))
