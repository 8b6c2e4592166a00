use Rattle.std.proofs.Common.{subst, map}
use Rattle.gd_question.specs.Posing.{Posed}
use Rattle.gd_question.specs.Placing.{IsPlaced}
use Rattle.gd_question.specs.Rows.{line_of}
use Rattle.gd_question.proofs.ElementPlaces.{is_placed}
use Rattle.gd_question.proofs.question.Question.placed.Goals as goal

pub returns : goal.returns
returns c =
    let q = c.self.inside in
    subst (λ (p : Posed). IsPlaced p.pipeline p.asked) c.self.view_is (is_placed q.system q.capacities.items (map (line_of q.system) q.rows.items) c.self.invariant.system)
