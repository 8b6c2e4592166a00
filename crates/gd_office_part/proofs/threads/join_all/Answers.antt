use Rattle.std.proofs.Common.{arith}
use Rattle.std.proofs.lemmas.Grind.{common_steps}
use Rattle.std.proofs.lemmas.List.Elements.{All-push}
use Rattle.gd_office_part.specs.Sending.{IsStepped}
use Rattle.gd_office_part.proofs.threads.join_all.Goals as goal

pub loop-child-preserved : goal.loop-child-preserved
loop-child-preserved g c =
    let was = c.loop-child.invariant in
    let same = c.in_ok-sent.ensures.0 in
    record {
      sent = grind (arith, common_steps);
      stepped = rw c.in_ok-keep.ensures (All-push (IsStepped g.J.Days.days) c.loop-child.all.items _ was.stepped c.in_ok-sent.ensures.1);
    }
