use Rattle.std.proofs.Common.{◌≡◌, length, sym, subst, arith}
use Rattle.gd_network.specs.Flow.{IsScheduleOf}
use Rattle.gd_network.proofs.LineSums.{Summed, summed_more, summed_all}
use Rattle.gd_network.proofs.flow.schedule_of.Goals as goal

pub loop-line-preserved : goal.loop-line-preserved
loop-line-preserved c =
    rw c.in_ok-push.ensures.items
    (summed_more c.args.question.now.asked c.args.flow.now c.loop-line.line c.loop-line.quantities.items c.carried.result c.loop-line.invariant c.carried.ensures)

pub returns : goal.returns
returns c =
    let over = c.loop-line-test.false in
    let upto = c.loop-line.auto.line-end in
    let count = c.line_count-line-end.ensures in
    let all : c.loop-line.line ≡ length c.args.question.now.asked.lines = omega (arith, over, upto, count) in
    subst (IsScheduleOf c.args.question.now.asked c.args.flow.now) (sym c.of.ensures)
    (summed_all c.args.question.now.asked c.args.flow.now c.loop-line.quantities.items
    (subst (λ n. Summed c.args.question.now.asked c.args.flow.now n c.loop-line.quantities.items) all c.loop-line.invariant))
