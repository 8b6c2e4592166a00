use Rattle.std.proofs.Common.{◌≡◌, arith}
use Rattle.gd_schedule.proofs.Tenths.{weight_counted}
use Rattle.gd_schedule.proofs.weights.line_weight.Goals as goal

pub returns-clause-is : goal.returns-clause-is
returns-clause-is c =
    let e : c.loop-j.j ≡ 10 = omega arith in
    weight_counted c.loop-j.weight c.loop-j.j c.get-last.result c.get-count.result c.args.ceiling c.args.quantity c.loop-j.invariant.is e c.get-last.ensures.is c.get-count.ensures.is
