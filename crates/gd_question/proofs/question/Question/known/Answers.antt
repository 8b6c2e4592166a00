use Rattle.std.proofs.Common.{subst}
use Rattle.gd_question.specs.Posing.{Posed}
use Rattle.gd_question.specs.Known.{IsKnown}
use Rattle.gd_question.proofs.Sound.{is_known}
use Rattle.gd_question.proofs.question.Question.known.Goals as goal

pub returns : goal.returns
returns c =
    let q = c.self.inside in
    let i = c.self.invariant in
    subst (λ (p : Posed). IsKnown p.asked) c.self.view_is (is_known q.system q.capacities.items q.rows.items i.system i.few i.rows)
