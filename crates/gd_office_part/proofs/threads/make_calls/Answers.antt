use Rattle.std.proofs.Common.{◌≡◌, ◌∙◌, List, ◌++◌, length, take, drop, ap, sym, subst, rules, arith}
use Rattle.std.proofs.lemmas.List.{append-nil, nil_from_length}
use Rattle.gd_office_part.specs.declared.call.Call.{Call}
use Rattle.gd_office_part.specs.Sending.{events_of, events_by}
use Rattle.gd_office_part.proofs.Asking.{block_sent, sent_is, sent_steps}
use Rattle.gd_office_part.proofs.threads.make_calls.Goals as goal

pub rest-preserved : goal.rest-preserved
rest-preserved g c =
    let was = c.rest.invariant in
    let party = c.args.start.now.party in
    let left = c.rest.left.now in
    let former = c.rest.receipts.items in
    let receipts = c.make_block.new.receipts.items in
    let all = events_by party c.args.calls.now in
    let block : c.split_at.result.0.now ≡ take c.min.result left = search rules in
    let later : c.split_at.result.1.now ≡ drop c.min.result left = search rules in
    record {
      sent = subst (λ (l : List Call). events_of receipts ++ events_by party l ≡ all) (sym later)
          (block_sent former receipts party left c.min.result all
          (c.in_ok-numbers.ensures.sent ∙ ap (λ (l : List Call). events_of former ++ events_by party l) block) was.sent);
      stepped = c.in_ok-numbers.ensures.stepped was.stepped;
      counted = c.in_ok-numbers.ensures.counted c.args.start.now.numbers was.counted;
    }

pub returns : goal.returns
returns g c =
    let was = c.rest.invariant in
    let party = c.args.start.now.party in
    let receipts = c.rest.receipts in
    let slot = c.of.ensures.0 ∙ c.number.ensures in
    let empty : length c.rest.left.now ≡ 0 = search rules in
    let none = nil_from_length c.rest.left.now (omega (arith, empty)) in (
      sent_is c.of.result c.args.slot.now.number c.args.start.now.numbers receipts party c.args.calls.now slot c.of.ensures.1 c.of.ensures.2
          (sym (append-nil (events_of receipts.items)) ∙ ap (λ (l : List Call). events_of receipts.items ++ events_by party l) (sym none) ∙ was.sent),
      sent_steps g.J.Days.days c.of.result c.args.slot.now.number receipts slot c.of.ensures.2 was.stepped,
    )
