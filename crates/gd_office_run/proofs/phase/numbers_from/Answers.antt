use Rattle.std.proofs.Common.{◌∙◌, ◌+◌, ◌++◌, List, ℕ, [], ◌∷◌, ap, sym}
use Rattle.gd_office_run.proofs.Runs.{range_more}
use Rattle.gd_office_run.proofs.phase.numbers_from.Goals as goal

pub loop-at-preserved : goal.loop-at-preserved
loop-at-preserved c =
    c.in_ok-push.ensures.items ∙ ap (λ (l : List ℕ). l ++ (c.args.first + c.loop-at.at) ∷ []) c.loop-at.invariant ∙ sym (range_more c.args.first c.loop-at.at)
