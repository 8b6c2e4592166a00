use Rattle.std.proofs.Common.{◌∙◌, ap, List, ◌++◌, ◌∷◌, [], sym, map, length, arith}
use Rattle.std.specs.List.{range_with_len}
use Rattle.std.proofs.lemmas.List.FromFn.{map-range_with_len_more}
use Rattle.gd_replies.specs.Days.{bound_row}
use Rattle.gd_replies.specs.declared.reply.Reply.{Reply}
use Rattle.gd_replies.specs.declared.reply.Reply.TheVariants as reply
use Rattle.gd_replies.proofs.day.frozen_replies.Goals as goal

pub lines-preserved : goal.lines-preserved
lines-preserved c =
    let q = c.args.question.now in
    let head = reply.Frozen c.args.number q.cycle q.round (length q.asked.lines) in
    let pushed = c.in_ok-push-2.ensures.items in
    pushed ∙ ap (λ (l : List Reply). l ++ c.bound_reply.result ∷ []) c.lines.invariant
    ∙ ap (λ (r : Reply). head ∷ map (bound_row q.asked) (range_with_len 0 c.lines.line) ++ r ∷ []) c.bound_reply.ensures
    ∙ ap (λ (l : List Reply). head ∷ l) (sym (map-range_with_len_more (bound_row q.asked) 0 c.lines.line c.lines.line (omega arith)))
