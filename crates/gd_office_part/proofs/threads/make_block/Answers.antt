use Rattle.std.proofs.Common.{◌≡◌, ◌∙◌, ℕ, List, ◌++◌, ap, arith, rules, subst}
use Rattle.std.proofs.lemmas.Grind.{common_steps}
use Rattle.std.proofs.lemmas.List.{take_all}
use Rattle.std.proofs.lemmas.List.Elements.{All-push}
use Rattle.gd_office_part.specs.declared.call.Call.{Call}
use Rattle.gd_office_part.specs.Sending.{events_of, events_by}
use Rattle.gd_office_part.specs.StepResults.{Stepped}
use Rattle.gd_office_part.proofs.Asking.{sent_more}
use Rattle.gd_office_part.proofs.threads.make_block.Goals as goal

pub loop-call-preserved : goal.loop-call-preserved
loop-call-preserved g c =
    let was = c.loop-call.invariant in
    let days = g.J.Days.days in
    let pushed = c.in_ok-push.ensures.items in
    let number : c.deref_mut.result.now.slot ≡ c.args.slot.now.number = search rules in
    let stepped = subst (λ (n : ℕ). Stepped days n c.in_ok-receipt.receipt) number c.in_ok-receipt.ensures.stepped in
    record {
      slot = grind (arith, common_steps);
      sent = rw pushed (sent_more c.args.receipts.now.items c.loop-call.receipts.items c.in_ok-receipt.receipt c.args.party c.args.calls.now c.loop-call.call-index c.call-item.result
          c.loop-call-test.true c.call-item.is c.in_ok-receipt.ensures.event was.sent);
      stepped = λ all. rw pushed (All-push (Stepped days c.args.slot.now.number) c.loop-call.receipts.items _ (was.stepped all) stepped);
      counted = λ start is. let so = was.counted start is in grind (arith, common_steps);
    }

pub returns : goal.returns
returns g c =
    let was = c.loop-call.invariant in
    record {
      sent = was.sent ∙ ap (λ (l : List Call). events_of c.args.receipts.now.items ++ events_by c.args.party l) (take_all c.loop-call.call-index c.args.calls.now c.loop-call-test.false);
      stepped = was.stepped;
      counted = was.counted;
    }
