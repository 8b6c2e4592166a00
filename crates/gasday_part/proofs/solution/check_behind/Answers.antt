use Rattle.std.proofs.Common.{rules, ◌≡◌, ◌∙◌, true, ℕ, ap, drop, length, take}
use Rattle.std.proofs.lemmas.Result.{IfOk-weaker}
use Rattle.gasday_part.specs.AnswerSeen.{answer_seen}
use Rattle.gasday_part.specs.Solutions.{is_head}
use Rattle.gasday_part.proofs.Judging.{judged_behind}
use Rattle.gasday_part.proofs.solution.check_behind.Goals as goal

pub returns : goal.returns
returns g c =
    let answer = c.args.answer.now in
    let at = c.head_len.ensures.value in
    let begins : is_head answer ≡ true = search rules in
    let text = c.as_slice.ensures.value ∙ c.in_ok-text.ensures in
    IfOk-weaker c.judged.result _ _ (λ a is. judged_behind c.args.question.now (length c.args.rows.now) answer _ _ _ _ (answer_seen c.in_ok-told.told) (answer_seen a) begins
    (c.split_at.ensures.front ∙ ap (λ (n : ℕ). take n answer) at) (c.split_at.ensures.back ∙ ap (λ (n : ℕ). drop n answer) at) text c.check_of.ensures c.in_ok-told.ensures is) c.judged.ensures
