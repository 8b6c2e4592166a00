use Rattle.std.proofs.Common.{◌≡◌, ◌<◌, ◌+◌, ℕ, length, sym, subst, arith}
use Rattle.gasday_office.specs.Offices.{IsEnd, IsOrder}
use Rattle.gasday_office.proofs.Calendars.{there}
use Rattle.gasday_office.proofs.Ends.{one_more}
use Rattle.gasday_office.proofs.answer.course_of.Goals as goal

pub slots-preserved : goal.slots-preserved
slots-preserved g c =
    let days = g.J.Days.days in
    let slots = c.slots-slot-items.result.now in
    let n = c.slots.slot-index in
    let came = c.summary_in-summary.ensures in
    let within : n < length slots = omega (arith, c.slots-test.true) in
    let number : c.slot-item.result.number ≡ n + 1 = c.slots-slot-items.ensures.numbered n c.slot-item.result (there slots n c.slot-item.result within c.slot-item.is) in
    let end = subst (λ (k : ℕ). IsEnd days k came.0) number came.1 in
    subst (IsOrder days (n + 1) c.args.rows.now) (sym c.stays_in_order-is_in_order.ensures)
    (one_more days n c.args.rows.now c.slots.is_in_order came.0 c.summary_in-summary.result c.slots.invariant end came.2)
