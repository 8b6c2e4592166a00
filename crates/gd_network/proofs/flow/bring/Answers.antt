use Rattle.std.proofs.Common.{take, ◌++◌, ◌∷◌, [], ◌<◌, ap, sym, ◌∙◌, subst}
use Rattle.gd_network.specs.Beginning.{clamped_schedule}
use Rattle.gd_network.proofs.Clamping.{brought_more}
use Rattle.gd_network.proofs.flow.bring.Goals as goal

pub loop-line-preserved : goal.loop-line-preserved
loop-line-preserved c =
    c.in_ok-push.ensures.items
    ∙ ap (λ xs. xs ++ c.clamp.result ∷ []) c.loop-line.invariant
    ∙ ap (λ n. clamped_schedule (take c.loop-line.line c.args.question.now.asked.lines) c.args.schedule.now ++ n ∷ []) c.clamp.ensures
    ∙ sym (brought_more c.args.question.now.asked.lines c.args.schedule.now c.loop-line.line (subst (λ m. c.loop-line.line < m) c.line_count-line-end.ensures c.loop-line-test.true))
