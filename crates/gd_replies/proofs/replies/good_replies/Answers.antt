use Rattle.std.proofs.Common.{rules, ◌≡◌, ◌≤◌, ◌+◌, ◌∷◌, ◌∙◌, List, ap, sym, true, arith}
use Rattle.std.specs.Result.{is_ok}
use Rattle.gd_replies.specs.declared.reply.Reply.{Reply}
use Rattle.gd_replies.proofs.Totals.{totals-zero, one_more}
use Rattle.gd_replies.proofs.replies.good_replies.Goals as goal

pub classes-init : goal.classes-init
classes-init c =
    let good : is_ok c.push.result ≡ true = search rules in
    let items = rw (good, c.new-rows.ensures.items) at c.push.ensures.items in
    items ∙ ap (λ (l : List Reply). c.args.good ∷ l) (sym (totals-zero c.args.question.now.asked c.args.schedule.now))

pub classes-preserved : goal.classes-preserved
classes-preserved c =
    let class : c.in-Some-new.class ≡ c.classes.at + 1 = c.in-Some-new.ensures.0 in
    let low : 1 ≤ c.in-Some-new.class = omega arith in
    let high : c.in-Some-new.class ≤ 8 = omega (arith, c.last_class-last.ensures.high, c.classes-test.true) in
    let total = c.in-Some.ensures.1.each c.in-Some-new.class low high in
    one_more c.args.good c.args.question.now.asked c.args.schedule.now c.classes.at c.in-Some-new.class _ c.classes.rows.items c.push_total.new.rows.items class total c.classes.invariant c.in_ok-push_total-in-Some-new.ensures
