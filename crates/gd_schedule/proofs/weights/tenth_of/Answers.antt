use Rattle.std.proofs.Common.{◌≡◌, ◌≤◌, arith, subst, sym}
use Rattle.gd_rules.specs.Spread.{tenth_of}
use Rattle.gd_schedule.proofs.Tenths.{tenth_low, tenth_high, tenth_counted}
use Rattle.gd_schedule.proofs.weights.tenth_of.Goals as goal

pub returns : goal.returns
returns c =
    let e : c.loop-j.j ≡ 10 = omega arith in
    let f : c.loop-j.tenth ≡ tenth_of c.args.ceiling c.args.dekatherm = tenth_counted c.loop-j.tenth c.loop-j.j c.get-last.result c.args.ceiling c.args.dekatherm c.loop-j.invariant.is e c.get-last.ensures.is in
    record {
      is = f;
      low = subst (λ k. 1 ≤ k) (sym f) (tenth_low c.args.ceiling c.args.dekatherm c.requires);
      high = subst (λ k. k ≤ 10) (sym f) (tenth_high c.args.ceiling c.args.dekatherm);
    }
