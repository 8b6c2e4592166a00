use Rattle.std.proofs.Common.{rules, ◌≡◌, ◌∙◌, true, sym}
use Rattle.std.specs.Result.{is_ok}
use Rattle.gd_replies.proofs.CycleRows.{cycles-zero, one_more}
use Rattle.gd_replies.proofs.calendar.calendar_replies.Goals as goal

pub cycles-init : goal.cycles-init
cycles-init c = c.new-rows.ensures.items ∙ sym (cycles-zero c.args.calendar.now)

pub cycles-preserved : goal.cycles-preserved
cycles-preserved c =
    let good : is_ok c.push.result ≡ true = search rules in
    let items = rw good at c.push.ensures.items in
    one_more c.args.calendar.now c.cycles.at c.in-Some.cycle c.cycle_reply.result _ _ c.in-Some.ensures.0 c.cycle_reply.ensures c.cycles.invariant items
